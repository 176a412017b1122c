-- Where the joins of what a filter writes are clean, what was written reads as the file patches that are left.
use Rattle.std.specs.Prelude.{◌≡◌, ℕ, Bool, true, List, [], ◌∷◌, map, Ok}
use Rattle.std.specs.List.{flat_map}
use Rattle.line_list.specs.Lines.{lines}
use Rattle.line_list.specs.Completed.{completed}
use Rattle.patch_options.specs.PlainJob.{PlainOptions}
use Rattle.read_file_patch.specs.declared.FilePatch.{FilePatch}
use Rattle.patch_set.specs.Asked.{ways_of}
use Rattle.patch_set.specs.SetView.{SetView, IsRead}
use Rattle.cli_tool_words.specs.PlainJobs.{PlainFilterJob}
use Rattle.patch_filters.specs.Filtered.{written, filtered}
use Rattle.filter_whole_text.specs.Texts.{defaults, Spot}
use Rattle.cli_filter.specs.Texts.{spot_written, filtered_in}
use Rattle.law_reading.specs.Unnumbered.{unnumbered}
use Rattle.law_reading.specs.Joins.{BeginCleanly, begin_with_git, read_unnumbered}
use Rattle.law_filters.specs.LeftPatches.{left_of, left_patches, left_spots, left_in}

-- what is written of a file patch, and whether that is a bare git header
pub record Text : Type 0 where
  pub bare : Bool
  pub bytes : List ℕ

-- these texts, one behind the other
abbrev pub all_bytes : List Text → List ℕ
all_bytes ts = flat_map (λ t. t.bytes) ts

-- what is written behind each begins cleanly, and with a git line behind a bare git header; behind the last there is nothing
abbrev pub FollowCleanly : List Text → Type 0
FollowCleanly [] = Unit {0}
FollowCleanly (t ∷ ts) = BeginCleanly (lines (all_bytes ts)) × (t.bare ≡ true → begin_with_git (lines (all_bytes ts)) ≡ true) × FollowCleanly ts

-- what is written of each file patch that is left
abbrev pub text_of : PlainFilterJob → List ℕ → ℕ × FilePatch → Text
text_of j text n = record { bare = n.1.header.bare; bytes = written j text n.1 }

abbrev pub texts_of : PlainFilterJob → SetView → List Text
texts_of j v = map (text_of j v.text) (left_of j v)

-- the joins of what is written are clean
abbrev pub AreCleanJoins : PlainFilterJob → SetView → Type 0
AreCleanJoins j v = FollowCleanly (texts_of j v)

-- the same, told by the text alone
abbrev pub spot_text : PlainFilterJob → List ℕ → ℕ × Spot → Text
spot_text j text n = record { bare = n.1.0.header.bare; bytes = spot_written j text n.1 }

abbrev pub AreCleanJoinsIn : PlainFilterJob → List ℕ → Type 0
AreCleanJoinsIn j text = FollowCleanly (map (spot_text j (completed text)) (left_spots j text))

-- then what was written of a set, read in the ways in which the set was read, is the file patches that are left, line numbers aside
abbrev pub ReadsAsLeft : Type 0
ReadsAsLeft = (o : PlainOptions) (given : List ℕ) (v : SetView) (j : PlainFilterJob) → IsRead o given v → AreCleanJoins j v → read_unnumbered v.ways (filtered j v) ≡ Ok (map unnumbered (left_patches j v))

-- and so is what `filterdiff` writes of a text, read in the ways in which it reads the text; that is nothing where the text is refused
abbrev pub TextReadsAsLeft : Type 0
TextReadsAsLeft = (text : List ℕ) (j : PlainFilterJob) → AreCleanJoinsIn j text → read_unnumbered (ways_of (defaults j.select.skip_binary)) (filtered_in j text) ≡ Ok (map unnumbered (left_in j text))
