-- Hunks that follow each other, read line by line.
use Rattle.std.specs.Prelude.{ℕ, ◌+◌, Bool, false, List, [], ◌∷◌, Result, Ok, Err}
use Rattle.hunk_core.specs.declared.BadKind.{BadKind}
use Rattle.hunk_core.specs.declared.BadKind.TheVariants as kinds
use Rattle.hunk_core.specs.PlainHunk.{Marked, PlainHunk}
use Rattle.hunk_core.specs.Reading.{Fault, fault, ◌>>=◌, Ahead, ahead}
use Rattle.hunk_core.specs.Refusals.{settled}
use Rattle.hunk_core.specs.Following.{hunks_by, reading_by}
use Rattle.unified_form.specs.declared.range.Ranges.{Ranges}
use Rattle.unified_form.specs.declared.body.Left.{Left}
use Rattle.unified_form.specs.Ranges.{opening, is_opening}
use Rattle.unified_form.specs.Bodies.{body_at}

-- the ranges, or the fault of this line
abbrev pub at_line : ℕ → Result Ranges BadKind → Result Ranges Fault
at_line number (Ok r) = Ok r
at_line number (Err kind) = Err (fault number kind)

-- what a body with these ranges has on each side
abbrev pub left_of : Ranges → Left
left_of r = record { old = r.old_count; new = r.new_count }

-- a hunk with these starts
abbrev pub change : Ranges → List Marked → PlainHunk
change r body = record { old_start = r.old_start; new_start = r.new_start; body = body }

-- a hunk whose range line is the first of these lines, and what is ahead behind it
unfoldable pub first_hunk : ℕ → ℕ → List (List ℕ) → Result (PlainHunk × Ahead) Fault
first_hunk least number [] = Err (fault number kinds.ShortEnd)
first_hunk least number (line ∷ rest) = do
  r ← at_line number (opening least line)
  body ← body_at (r.old_count + r.new_count) (left_of r) (ahead (number + 1) rest)
  settled (change r body.0) body.1

-- a hunk that starts at least
abbrev pub hunk_at : ℕ → Ahead → Result (PlainHunk × Ahead) Fault
hunk_at least p = first_hunk least p.number p.rest

-- a hunk opens these lines
abbrev pub begins_hunk : List (List ℕ) → Bool
begins_hunk [] = false
begins_hunk (line ∷ rest) = is_opening line

-- at most so many hunks that follow each other
abbrev pub hunks_at : ℕ → ℕ → Ahead → Result (List PlainHunk × Ahead) Fault
hunks_at most least p = hunks_by begins_hunk hunk_at most least p

-- the hunks at the front of these lines, and what stands behind them, or the first fault
abbrev pub reading : ℕ → List (List ℕ) → Result (List PlainHunk × Ahead) Fault
reading number rest = reading_by begins_hunk hunk_at number rest
