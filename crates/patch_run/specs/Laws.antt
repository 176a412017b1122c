-- What the definition of a run says, in words of its own.
use Rattle.std.specs.Prelude.{◌≡◌, ◌≢◌, ◌⊎◌, ℕ, List, [], ◌∷◌, ◌++◌, All, Bool, true, false, not, ◌&&◌, ◌||◌, bytes_eq, is_none, is_some, Option, None, Some, option_map}
use Rattle.std.specs.List.{AllByRecursion, list_any, flat_map}
use Rattle.std.specs.Option.{option_to_list}
use Rattle.std.specs.FinMap.{get}
use Rattle.outside.specs.Files.{Files, is_temp}
use Rattle.outside.specs.Quiet.{Effect}
use Rattle.outside.specs.Quiet.Effect.{Put, Remove}
use Rattle.hunk_core.specs.declared.Side.{Side}
use Rattle.hunk_core.specs.declared.Verdict.TheVariants.{Ignored}
use Rattle.patch_options.specs.PlainJob.{PlainOptions}
use Rattle.name_choice.specs.Choice.{side_of}
use Rattle.name_choice.specs.declared.Choice.{Choice}
use Rattle.name_choice.specs.declared.Choice.TheVariants.{Existing, Create, Nothing}
use Rattle.read_file_patch.specs.PlainPatch.{PlainPatch}
use Rattle.read_file_patch.specs.declared.derived.Target.{Target}
use Rattle.patch_set.specs.declared.set.Row.{Row}
use Rattle.apply_task.specs.Asking.{renames}
use Rattle.apply_task.specs.Kinds.{is_meant, is_link}
use Rattle.patch_run.specs.OnePatch.{Item, PastFilePatch, PlainContext, Start, skips, refuses, tries, Ending, ended, stopped, target_at, written_by, renamed_by, bytes_of, lines_in, first_hunk, is_reversed, turns_round, lacks_word, refusal_of, unfit, is_needed, is_name, finished_at}
use Rattle.patch_run.specs.Run.{files_after}

-- ---- when a file patch is skipped

-- the file patch is skipped
abbrev pub IsSkip : Start → Type 0
IsSkip (skips said row taken) = Unit {0}
IsSkip (refuses said fault) = ⊥
IsSkip (tries said place side) = ⊥

-- the file of this place can be taken: it isn't there, or isn't too long
abbrev pub is_taken : PlainContext → Files → ℕ → Bool
is_taken t files k = is_none (refusal_of t.options.buffer (bytes_of t files k))

-- its first hunk looks reversed in that file
abbrev pub is_reversed_at : PlainContext → Files → ℕ → Bool
is_reversed_at t files k = is_reversed t.options (lines_in (bytes_of t files k)) (side_of t.options.reverse) (first_hunk t.item.patch.change)

-- it looks as if it was applied before: it misfits its file, or its first hunk looks reversed in a file that can be taken
abbrev pub looks_applied : PlainContext → Files → ℕ → Bool
looks_applied t files k = is_some (unfit t files k (side_of t.options.reverse)) || (is_taken t files k && is_reversed_at t files k)

-- a file that can be taken lacks the word of its `Prereq:` line
abbrev pub is_unready : PlainContext → Files → ℕ → Bool
is_unready t files k = is_taken t files k && lacks_word t.item.patch.header.prereq (bytes_of t files k)

-- a file with bytes, which a file patch of the text renames or copies, stands where a file would be renamed or copied to
abbrev pub is_over_needed : PlainContext → Files → ℕ → Bool
is_over_needed t files k = is_some (unfit t files k (side_of t.options.reverse)) && is_needed t k

-- it is skipped there, with `-f` too; without `-f` also where it looks applied and isn't turned round, or the word is missing
abbrev pub is_unsuited_if_meant : PlainContext → Files → ℕ → Bool
is_unsuited_if_meant t files k = is_over_needed t files k || (not t.options.force && ((looks_applied t files k && not (turns_round t)) || is_unready t files k))

-- and where its modes ask for what isn't done
abbrev pub is_unsuited : PlainContext → Files → ℕ → Bool
is_unsuited t files k = not (is_meant t.item.patch) || is_unsuited_if_meant t files k

-- a name results, and the file at it would be renamed or copied there
abbrev pub goes_over_needed : PlainContext → Files → Choice → Bool
goes_over_needed t files (Existing k) = is_over_needed t files k
goes_over_needed t files (Create k) = is_over_needed t files k
goes_over_needed t files Nothing = false

-- it is skipped where no name results, and where it doesn't suit the chosen file
abbrev pub is_skipped : PlainContext → Files → Choice → Bool
is_skipped t files (Existing k) = is_unsuited t files k
is_skipped t files (Create k) = is_unsuited t files k
is_skipped t files Nothing = true

-- nothing of it is done: each hunk is ignored, and there is no effect
abbrev pub IsIgnored : Ending → Type 0
IsIgnored (ended story) = (story.effects ≡ []) × All (λ v. v ≡ Ignored) story.verdicts
IsIgnored (stopped said fault) = ⊥

-- ---- what a file patch makes of the files

-- it made or took away this name, as its target or from a file that it renamed
abbrev pub HasWritten : PlainContext → Ending → List ℕ → Type 0
HasWritten t (ended story) name = (story.row.wrote ≡ true) × ((w : Target) × (((written_by t story.row ≡ Some w) ⊎ (renamed_by t story.row ≡ Some w)) × (w.name ≡ name)))
HasWritten t (stopped said fault) name = ⊥

-- the target holds what was written, and nothing has the source's name any more
pub record IsRenamed (files : Files) (s w : Target) (bytes : List ℕ) : Type 0 where
  pub target : get files w.name ≡ Some bytes
  pub source : get files s.name ≡ None

-- the files behind a file patch whose hunks were tried at this place and from this side
abbrev pub tried_files : PlainContext → Files → ℕ → Side → Files
tried_files t files k side = files_after (finished_at t files [] k side) files

-- no file is made at this name for the target: it isn't temporary, nor the target's own name, nor that of its backup or reject file
pub record IsApart (name : List ℕ) (w : Target) : Type 0 where
  pub lasting : is_temp name ≡ false
  pub own : name ≢ w.name
  pub backup : name ≢ w.backup
  pub reject : name ≢ w.reject

-- ---- what is taken away

-- the names that effects take away
abbrev pub removed_in : List Effect → List (List ℕ)
removed_in [] = []
removed_in (Put name bytes ∷ es) = removed_in es
removed_in (Remove name ∷ es) = name ∷ removed_in es

-- with `-D` no file is taken away, with `--posix` none but by `-E`, and a symbolic link without a text
abbrev pub keeps_files : PlainOptions → PlainPatch → Bool
keeps_files o p = is_some o.define || (o.posix && (not o.remove_empty && not (is_link p)))

-- the name is that of the file that the file patch renames
abbrev pub IsSource : PlainContext → Row → List ℕ → Type 0
IsSource t r name = (renames t.item.patch ≡ true) × ((k : ℕ) × ((r.target ≡ Some k) × (name ≡ (target_at t.item.targets k).name)))

abbrev pub TakesItsSource : PlainContext → Ending → Type 0
TakesItsSource t (ended story) = AllByRecursion (IsSource t story.row) (removed_in story.effects)
TakesItsSource t (stopped said fault) = Unit {0}

-- ---- names over a run

-- the output of the options, if they name one, and all targets of the file patches, both names of a rename among them
abbrev pub targets_in : Option Target → List Item → List Target
targets_in output items = option_to_list output ++ flat_map (λ i. i.targets) items

-- the name is that of a backup or of a reject file of one of these
abbrev pub is_beside : List ℕ → List Target → Bool
is_beside name targets = list_any (λ w. bytes_eq name w.backup || bytes_eq name w.reject) targets

-- the name is that of one of these, or of a backup of one
abbrev pub is_kept_for : List ℕ → List Target → Bool
is_kept_for name targets = list_any (λ w. bytes_eq name w.name || bytes_eq name w.backup) targets

-- rejects of it go to this file
abbrev pub rejects_to : List ℕ → PastFilePatch → Bool
rejects_to name m = is_name name (option_map (λ r. r.0) m.rejected)
