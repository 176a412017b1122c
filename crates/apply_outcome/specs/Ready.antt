-- What a file patch needs before its turn comes.
use Rattle.std.specs.Prelude.{◌≡◌, ℕ, ◌+◌, ◌≤◌, List, [], ◌∷◌, length, map, take, drop, All, Option}
use Rattle.std.specs.List.{zip}
use Rattle.std.specs.Option.{ForSome}
use Rattle.hunk_core.specs.declared.Verdict.{Verdict}
use Rattle.outside.specs.Marked.{is_marked}
use Rattle.outside.specs.declared.marks.WrittenNames.{WrittenNames}
use Rattle.patch_options.specs.PlainJob.{PlainOptions}
use Rattle.read_file_patch.specs.declared.FilePatch.{FilePatch}
use Rattle.read_file_patch.specs.PlainPatch.{row_count}
use Rattle.patch_set.specs.declared.set.Row.{Row}
use Rattle.patch_set.specs.SetView.{SetView}
use Rattle.apply_task.specs.Contexts.{PastFilePatch, PlainContext}
use Rattle.apply_outcome.specs.Outcome.{mark_of, was_written}
pub use Rattle.apply_task.specs.Ready.{item_of, moved_in, IsFit, alone, IsReady}

-- the verdicts on the hunks of a file patch
abbrev pub rows_in : List Verdict → FilePatch → List Verdict
rows_in verdicts p = take (row_count p.change) (drop p.first_verdict verdicts)

-- the mark that a file patch has by its row and its verdicts
abbrev pub mark_in : PlainOptions → SetView → List Verdict → FilePatch × Row → PastFilePatch
mark_in o v verdicts x = mark_of (alone o v x.0) x.1 (rows_in verdicts x.0)

-- the marks of the first file patches of a set, so many of them
unfoldable pub marks : PlainOptions → SetView → ℕ → List Verdict → List PastFilePatch
marks o v count verdicts = map (mark_in o v verdicts) (zip (take count v.patches) v.rows)

-- the verdicts of the first file patches of a set are there
abbrev pub HasVerdicts : SetView → ℕ → List Verdict → Type 0
HasVerdicts v count verdicts = All (λ p. p.first_verdict + row_count p.change ≤ length verdicts) (take count v.patches)

-- the names that file patches with these marks made or took away, where they are kept
abbrev pub AreWritten : Option WrittenNames → List PastFilePatch → Type 0
AreWritten names past = ForSome names (λ n. (q : List ℕ) → is_marked n q ≡ was_written past q)

-- each file patch has its verdicts behind those of the one before it
abbrev pub AreNumbered : ℕ → List FilePatch → Type 0
AreNumbered before [] = Unit {0}
AreNumbered before (p ∷ ps) = (p.first_verdict ≡ before) × AreNumbered (before + row_count p.change) ps

-- a file patch whose turn it is in a set, so many having had theirs
abbrev pub turn_at : PlainOptions → SetView → ℕ → List Verdict → FilePatch → PlainContext
turn_at o v count verdicts p = record { options = o; output = v.output; item = item_of v.text v.skipped (moved_in v.patches) p; past = marks o v count verdicts }
