-- What is written of the file patches of which a line is found (manual page of `grepdiff`).
use Rattle.std.specs.Prelude.{◌≡◌, ℕ, Bool, true, false, not, ◌&&◌, ◌||◌, filter, List, [], ◌∷◌, ◌++◌, map, take, slice_get, Option, None, Some, Result, IfErr, OnOk, OnErr, if◌then◌else◌}
use Rattle.std.specs.List.{flat_map, list_any}
use Rattle.outside.specs.FinderView.{FinderView, FinderPasses}
use Rattle.outside.specs.SinkView.{SinkView, SinkPasses, Receives, ReceivesPart, Rises}
use Rattle.hunk_core.specs.PlainHunk.{bytes_at}
use Rattle.read_file_patch.specs.declared.FilePatch.{FilePatch}
use Rattle.read_file_patch.specs.PlainPatch.{PlainChange, PlainPatch, hunks, script, change_of, patch_of}
use Rattle.patch_set.specs.PlainName.{plain_name}
use Rattle.patch_set.specs.SetView.{SetView}
use Rattle.cli_tool_words.specs.PlainJobs.{PlainGrepJob, PlainStyle}
use Rattle.cli_tool_words.specs.declared.jobs.Searched.{Searched}
use Rattle.cli_tool_words.specs.declared.jobs.Searched.TheVariants.{All, Removed, Added, Changed}
use Rattle.hunk_core.specs.declared.Mark.{Mark}
use Rattle.hunk_core.specs.declared.Mark.TheVariants.{Keep, Drop, Add}
use Rattle.cli_tool_words.specs.declared.jobs.Marks.{Marks}
use Rattle.cli_tool_words.specs.declared.jobs.GrepOut.{GrepOut}
use Rattle.cli_tool_words.specs.declared.jobs.GrepOut.TheVariants.{Names, Hunks, Files}
pub use Rattle.patch_header.specs.Content.{content}
use Rattle.patch_filters.specs.declared.fault.GrepFault.{GrepFault}
use Rattle.patch_filters.specs.declared.fault.GrepFault.TheVariants.{Pattern, Write, Memory}
use Rattle.filter_choice.specs.Selected.{is_selected}
use Rattle.patch_filters.specs.Filtered.{region, pieces, chosen, text_if}
use Rattle.patch_filters.specs.HunkLines.{hunk_lines}
use Rattle.patch_filters.specs.Listed.{name_line}
use Rattle.patch_filters.specs.Told.{Telling, asks_marks, told_hunks}

-- lines with this mark are searched
abbrev pub is_searched : Searched → Mark → Bool
is_searched All mark = true
is_searched searched Keep = false
is_searched Removed Drop = true
is_searched Removed Add = false
is_searched Added Drop = false
is_searched Added Add = true
is_searched Changed Drop = true
is_searched Changed Add = true

-- the contents of the lines of each hunk that are searched, without their marks; an ed script is one hunk, with the lines that it inserts
abbrev pub contents : Searched → PlainChange → List (List (List ℕ))
contents searched (hunks hs) = map (λ h. map (λ m. content m.line) (filter (λ m. is_searched searched m.mark) h.body)) hs
contents searched (script es) = (if is_searched searched Add then flat_map (λ e. map content e.added) es else []) ∷ []

-- for each hunk whether one of its contents has a hit
abbrev pub hits_of : Searched → (List ℕ → Bool) → PlainChange → List Bool
hits_of searched hit c = map (list_any hit) (contents searched c)

-- the file patch is selected, and one of its hunks has a hit
abbrev pub is_found : (List ℕ → Bool) → PlainGrepJob → PlainPatch → Bool
is_found hit j p = is_selected j.select (plain_name p.header) && list_any (λ is. is) (hits_of j.searched hit p.change)

-- of a file patch that is found its line and, where that is asked for, those of the hunks with a hit; or its region and just these hunks;
-- or all of it
abbrev pub found_text : (List ℕ → Bool) → GrepOut → PlainGrepJob → List ℕ → FilePatch → List ℕ
found_text hit Names j text p = name_line j.shown None (patch_of text p) ++ text_if (j.shown.hunks, chosen (hits_of j.searched hit (change_of text p.change)) (hunk_lines j.shown.hunk_label text p))
found_text hit Hunks j text p = region text p ++ chosen (hits_of j.searched hit (change_of text p.change)) (pieces text p)
found_text hit Files j text p = bytes_at text p.span

-- ---- with hunks told, or lines numbered

abbrev pub shows_names : GrepOut → Bool
shows_names Names = true
shows_names Hunks = false
shows_names Files = false

-- that is asked for where hunks or file patches are written
abbrev pub tells : PlainGrepJob → Bool
tells j = asks_marks j.marks && not (shows_names j.output)

-- names stay, and no other text is written
abbrev pub no_style : PlainStyle
no_style = record { strip = 0; prefix = None; old_prefix = []; new_prefix = []; no_stamps = false; clean = false }

abbrev pub plain_telling : Marks → Telling
plain_telling marks = record { style = no_style; marks = marks; verbose = false }

-- the hunks that are written: those with a hit, or all
abbrev pub is_whole : GrepOut → Bool
is_whole Names = false
is_whole Hunks = false
is_whole Files = true

abbrev pub written_flags : GrepOut → List Bool → List Bool
written_flags out hits = map (λ hit. is_whole out || hit) hits

-- of a file patch with these hits, the lines in front of its hunks, and the texts of these
abbrev pub told_found : PlainGrepJob → List Bool → PlainPatch → List ℕ → List (List ℕ) → List ℕ
told_found j hits p front texts = told_hunks (plain_telling j.marks) j.marks.numbered (written_flags j.output hits) p front texts

abbrev pub found_told : (List ℕ → Bool) → PlainGrepJob → List ℕ → FilePatch → List ℕ
found_told hit j text p = told_found j (hits_of j.searched hit (change_of text p.change)) (patch_of text p) (region text p) (pieces text p)

-- ---- all of them

abbrev pub asked_text : (List ℕ → Bool) → PlainGrepJob → List ℕ → FilePatch → List ℕ
asked_text hit j text p = if tells j then found_told hit j text p else found_text hit j.output j text p

-- what is written of the file patches that are found
unfoldable pub grepped : (List ℕ → Bool) → PlainGrepJob → SetView → List ℕ
grepped hit j v = flat_map (asked_text hit j v.text) (filter (λ p. is_found hit j (patch_of v.text p)) v.patches)

-- the same of one file patch
abbrev pub text_if_found : (List ℕ → Bool) → PlainGrepJob → List ℕ → FilePatch → List ℕ
text_if_found hit j text p = if is_found hit j (patch_of text p) then asked_text hit j text p else []

-- ---- one call

-- a refusal has its cause: the pattern isn't one that is always taken, and nothing was written; or the sink has failed
abbrev pub HasGrepCause : {O : Type 0} → GrepFault → (O → SinkView) → FinderView → List ℕ → O → O → Type 0
HasGrepCause Pattern view finder pattern old new = (finder.takes pattern ≡ false) × (new ≡ old)
HasGrepCause Write view finder pattern old new = Rises (view old) (view new)
HasGrepCause Memory view finder pattern old new = Unit {0}

-- ---- its parts

-- the test of a finder, by the pattern that it keeps
abbrev pub test_by : Option (List ℕ) → (List ℕ → List ℕ → Bool) → List ℕ → Bool
test_by None hit line = false
test_by (Some pattern) hit line = hit pattern line

abbrev pub test_of : FinderView → List ℕ → Bool
test_of v = test_by v.kept v.hit

-- a finder was asked, or not: it keeps its pattern
pub record IsAsked (old new : FinderView) : Type 0 where
  pub passes : FinderPasses old new
  pub kept : new.kept ≡ old.kept

-- the first of some flags that is set, if there is one
abbrev pub IsFirst : List Bool → Option ℕ → Type 0
IsFirst flags None = list_any (λ is. is) flags ≡ false
IsFirst flags (Some i) = (list_any (λ is. is) (take i flags) ≡ false) × (slice_get flags i ≡ Some true)

-- the pattern is refused, or memory ran out
abbrev pub IsPatternFault : GrepFault → FinderView → List ℕ → Type 0
IsPatternFault Pattern finder pattern = finder.takes pattern ≡ false
IsPatternFault Write finder pattern = ⊥
IsPatternFault Memory finder pattern = Unit {0}

-- the sink has failed, or memory ran out
abbrev pub IsFindFault : GrepFault → SinkView → SinkView → Type 0
IsFindFault Pattern old new = ⊥
IsFindFault Write old new = Rises old new
IsFindFault Memory old new = Unit {0}

-- what a call does that asks a finder and writes: on Ok the sink received these bytes, else a first part of them
pub record Finds {O R : Type 0} (view : O → SinkView) (same_rest : O → O → Type 0) (asked answered : FinderView) (old new : O) (result : Result R GrepFault) (bytes : List ℕ) : Type 0 where
  pub finder : IsAsked asked answered
  pub passes : SinkPasses (view old) (view new)
  pub rest : same_rest old new
  pub received : OnOk result (Receives (view old) (view new) bytes)
  pub failed : OnErr result (ReceivesPart (view old) (view new) bytes)
  pub cause : IfErr result (λ e. IsFindFault e (view old) (view new))
