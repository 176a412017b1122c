-- A text of unified hunks with true counts.
use Rattle.std.specs.Prelude.{ℕ, ◌+◌, ◌-◌, Bool, true, false, not, nat_lt, ◌==◌, ◌&&◌, ◌||◌, List, [], ◌∷◌, length, codes, Option, None, Some, Result, Ok, Err, if◌then◌else◌}
use Rattle.std.specs.List.{flat_map}
use Rattle.line_list.specs.Lines.{lines}
use Rattle.line_list.specs.Completed.{completed}
use Rattle.hunk_core.specs.declared.BadKind.{BadKind}
use Rattle.hunk_core.specs.declared.BadKind.TheVariants as kinds
use Rattle.hunk_core.specs.PlainHunk.{Marked, PlainHunk}
use Rattle.hunk_core.specs.Turned.{base}
use Rattle.hunk_core.specs.Reading.{Fault, fault, ◌>>=◌}
use Rattle.unified_form.specs.declared.body.Left.{Left}
use Rattle.unified_form.specs.Ranges.{is_opening}
use Rattle.unified_form.specs.Grammar.{counts_of}
use Rattle.hunk_core.specs.Rules.{is_too_large}
use Rattle.split_recount.specs.Bodies.{begins, ends_body, body_of, marked_lines, misplaced}
use Rattle.split_recount.specs.RangeLines.{stated, line_with}

-- a hunk before its new start is known, whose old lines begin at this line; where it has none, it starts at the one in front of that
abbrev pub unplaced : ℕ → List Marked → PlainHunk
unplaced first body = record { old_start = if (counts_of body).old == 0 then first - 1 else first; new_start = 0; body = body }

-- one for an empty range
abbrev pub one_if_none : ℕ → ℕ
one_if_none count = if count == 0 then 1 else 0

-- the difference of two numbers, if it isn't below 0
abbrev pub less : ℕ → ℕ → Option ℕ
less n m = if nat_lt n m then None else Some (n - m)

-- where the new lines start: as far on as the earlier hunks added more lines than they took away, one less for an empty range
abbrev pub new_start : Left → PlainHunk → Option ℕ
new_start earlier h = less (base h + earlier.new) (earlier.old + one_if_none (counts_of h.body).new)

-- the range line of a hunk with this new start, unless a number is too large
abbrev pub line_at : PlainHunk → List ℕ → Option ℕ → Result (List ℕ) BadKind
line_at h rest None = Err kinds.NumberTooLarge
line_at h rest (Some start) = if is_too_large h.old_start (counts_of h.body).old || is_too_large start (counts_of h.body).new then Err kinds.NumberTooLarge
    else Ok (line_with h.old_start start (counts_of h.body) rest)

-- the range line of a hunk behind earlier ones
abbrev pub true_line : Left → PlainHunk → List ℕ → Result (List ℕ) BadKind
true_line earlier h rest = line_at h rest (new_start earlier h)

-- what was found, or the fault of the line with this number
abbrev pub at_line : {A : Type 0} → ℕ → Result A BadKind → Result A Fault
at_line number (Ok x) = Ok x
at_line number (Err kind) = Err (fault number kind)

-- no backslash line of a body is misplaced
abbrev pub unless_misplaced : List Marked → Option ℕ → Result (List Marked) Fault
unless_misplaced body None = Ok body
unless_misplaced body (Some number) = Err (fault number kinds.MisplacedBackslash)

-- the marked lines of a body behind the range line with this number
abbrev pub sound_body : ℕ → List (List ℕ) → Result (List Marked) Fault
sound_body number body = if length body == 0 then Err (fault number kinds.Count) else unless_misplaced (marked_lines body) (misplaced None (number + 1) body)

-- a range line with the true counts of the body behind it, or the first fault of both
unfoldable pub recounted_line : ℕ → Left → List ℕ → List (List ℕ) → Result (List ℕ) Fault
recounted_line number earlier line body = do
  said ← at_line number (stated line)
  marked ← sound_body number body
  at_line number (true_line earlier (unplaced said.0 marked) said.1)

-- lines that stand in front of others
abbrev pub in_front : List ℕ → Result (List (List ℕ)) Fault → Result (List (List ℕ)) Fault
in_front line others = others >>= λ more. Ok (line ∷ more)

-- no lines
abbrev pub none : Left
none = record { old = 0; new = 0 }

-- the lines of earlier hunks, and of this body
abbrev pub with_body : Left → Left → Left
with_body earlier counts = record { old = earlier.old + counts.old; new = earlier.new + counts.new }

-- the lines of the hunks since the last line outside of bodies that begins with `+++ `
abbrev pub behind_line : Left → Bool → List ℕ → Left
behind_line earlier is_inside line = if not is_inside && begins (codes "+++ ") line then none else earlier

-- these lines, the first with this number, behind earlier hunks and perhaps in a body: each range line with its true counts, all others as they are
unfoldable pub recounting : ℕ → Left → Bool → List (List ℕ) → Result (List (List ℕ)) Fault
recounting number earlier in_body [] = Ok []
recounting number earlier in_body (line ∷ rest) =
    if is_opening line then (recounted_line number earlier line (body_of rest) >>= λ new. in_front new (recounting (number + 1) (with_body earlier (counts_of (marked_lines (body_of rest)))) true rest))
    else in_front line (recounting (number + 1) (behind_line earlier (in_body && not (ends_body line rest)) line) (in_body && not (ends_body line rest)) rest)

-- the bytes of lines
abbrev pub bytes_of : List (List ℕ) → List ℕ
bytes_of ls = flat_map (λ line. line) ls

-- the bytes of lines with true counts, or their first fault
abbrev pub recounted_lines : List (List ℕ) → Result (List ℕ) Fault
recounted_lines ls = recounting 1 none false ls >>= λ new. Ok (bytes_of new)

-- the completed text with true counts, or its first fault. A range line is still judged by the counts that it states: a bad
-- range and a number above the limit are refused; two counts of 0 and hunks out of order aren't, so `+0` can come out,
-- which the unified reader refuses
abbrev pub recounted : List ℕ → Result (List ℕ) Fault
recounted text = recounted_lines (lines (completed text))
