-- What comes of the hunks of a file patch.
use Rattle.std.specs.Prelude.{ℕ, List, [], length, replicate, count_by, Bool, not, ◌&&◌, if◌then◌else◌, nat_lt, Option, None, Some, ◌≡◌}
use Rattle.hunk_core.specs.declared.Side.{Side}
use Rattle.hunk_core.specs.declared.Verdict.{Verdict}
use Rattle.hunk_core.specs.declared.Verdict.TheVariants.{Nowhere}
use Rattle.patch_options.specs.PlainJob.{PlainOptions}
use Rattle.read_file_patch.specs.PlainPatch.{PlainChange, PlainPatch, hunks, hunk_count}
use Rattle.read_file_patch.specs.Absent.{creates}
use Rattle.hunk_apply.specs.Change.{change_output, change_verdicts}
use Rattle.hunk_apply.specs.Session.{is_placed, is_failed, is_inexact}
use Rattle.ifdef_out.specs.Placed.{change_edits}
use Rattle.ifdef_out.specs.Tagged.{ifdef_text}
use Rattle.apply_task.specs.Asking.{is_bare}
use Rattle.apply_task.specs.Contexts.{PlainContext}
use Rattle.apply_task.specs.LineEnds.{first_end}
use Rattle.std.specs.List.{list_any}
use Rattle.hunk_apply.specs.Written.{is_nothing}
use Rattle.hunk_apply.specs.declared.Session.{Session}

-- the new text of the file, what is written of it, and how its first old line ends
pub record Tried : Type 0 where
  pub side : Side
  pub verdicts : List Verdict
  pub text : List ℕ
  pub output : List ℕ
  pub end : Option Bool

abbrev pub has_lines : List (List ℕ) → Bool
has_lines ls = nat_lt 0 (length ls)

-- with `-f` a file patch that makes a file is tried on one with lines, too; but its hunks have one place, the front of a file without a byte
abbrev pub is_barred : PlainOptions → Side → PlainPatch → List (List ℕ) → Bool
is_barred o side p ls = o.force && not (is_bare p) && creates side p && has_lines ls

-- the hunks that can have a place on these lines
abbrev pub admitted : PlainOptions → Side → PlainPatch → List (List ℕ) → PlainChange
admitted o side p ls = if is_barred o side p ls then hunks [] else p.change

-- where the hunks stand, and the text with those that have a place
abbrev pub verdicts_over : PlainOptions → Side → PlainPatch → List (List ℕ) → List Verdict
verdicts_over o side p ls = if is_barred o side p ls then replicate (hunk_count p.change) Nowhere else change_verdicts ls o.fuzz o.loose side p.change

abbrev pub text_over : PlainOptions → Side → PlainPatch → List (List ℕ) → List ℕ
text_over o side p ls = change_output ls o.fuzz o.loose side (admitted o side p ls)

abbrev pub verdicts_on : PlainContext → Side → List (List ℕ) → List Verdict
verdicts_on t side ls = verdicts_over t.options side t.item.patch ls

abbrev pub text_of : PlainContext → Side → List (List ℕ) → List ℕ
text_of t side ls = text_over t.options side t.item.patch ls

-- the old and the new lines, parted by conditions
abbrev pub parted_output : PlainContext → Side → List (List ℕ) → List ℕ → List ℕ
parted_output t side ls define = ifdef_text define ls (change_edits (verdicts_on t side ls) side t.item.patch.change)

-- which are written with `-D` where hunks can have a place, and else the new text
abbrev pub output_on : Option (List ℕ) → PlainContext → Side → List (List ℕ) → List ℕ
output_on None t side ls = text_of t side ls
output_on (Some define) t side ls = if is_barred t.options side t.item.patch ls then text_of t side ls else parted_output t side ls define

abbrev pub tried : PlainContext → Side → List (List ℕ) → Tried
tried t side ls = record { side = side; verdicts = verdicts_on t side ls; text = text_of t side ls; output = output_on t.options.define t side ls; end = first_end ls }

abbrev pub failed : List Verdict → ℕ
failed vs = count_by is_failed vs

abbrev pub some_placed : List Verdict → Bool
some_placed vs = nat_lt 0 (count_by is_placed vs)

abbrev pub some_failed : List Verdict → Bool
some_failed vs = nat_lt 0 (failed vs)

-- the counts of verdicts and a new text
pub record IsSession (s : Session) (vs : List Verdict) (text : List ℕ) : Type 0 where
  pub applied : s.applied ≡ count_by is_placed vs
  pub failed : s.failed ≡ count_by is_failed vs
  pub inexact : s.inexact ≡ list_any is_inexact vs
  pub empty : s.output_empty ≡ is_nothing text
