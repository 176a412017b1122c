-- The lines of a hunk, read line by line.
use Rattle.std.specs.Prelude.{ℕ, zero, suc, ◌+◌, Bool, false, ◌==◌, List, [], ◌∷◌, ◌++◌, Option, None, Some, Result, Ok, Err, if◌then◌else◌}
use Rattle.hunk_core.specs.declared.Side.{Side}
use Rattle.hunk_core.specs.declared.Side.TheVariants.{Forward, Reversed}
use Rattle.hunk_core.specs.declared.BadKind.TheVariants as kinds
use Rattle.hunk_core.specs.PlainHunk.{Marked}
use Rattle.hunk_core.specs.LineTests.{after, marked, unended, after_backslash}
use Rattle.hunk_core.specs.Reading.{Fault, fault, ◌>>=◌, Ahead, ahead}
use Rattle.hunk_core.specs.declared.command.Action.{Action}
use Rattle.hunk_core.specs.declared.command.Action.TheVariants.{Add, Change, Delete}
use Rattle.hunk_core.specs.Letters.{is_line_end}
use Rattle.hunk_core.specs.Sides.{own_mark}
use Rattle.hunk_core.specs.Refusals.{unmarked}

-- '< ' for old lines, '> ' for new ones
abbrev pub marks : Side → List ℕ
marks Forward = 60 ∷ 32 ∷ []
marks Reversed = 62 ∷ 32 ∷ []

-- a line of this side has its mark. Where such a line or `---` must stand a backslash line is misplaced, behind `---` too
abbrev pub must_be_marked : ℕ → Side → List ℕ → Option (List ℕ) → Result Marked Fault
must_be_marked number side line (Some bytes) = Ok (marked (own_mark side) bytes)
must_be_marked number side line None = Err (fault number (unmarked line))

-- what stands behind the mark of a line of this side, or why it has none
abbrev pub marked_at : ℕ → Side → List ℕ → Result Marked Fault
marked_at number side line = must_be_marked number side line (after (marks side) line)

-- a line behind which so many are left, with what is ahead, and whether that begins with a backslash line
abbrev pub ended_by : Marked → ℕ → Ahead → Option (List (List ℕ)) → Result (Marked × Ahead) Fault
ended_by m left p None = Ok (m, p)
ended_by m left p (Some more) = if left == 0 then Ok (unended m, ahead (p.number + 1) more) else Err (fault p.number kinds.MisplacedBackslash)

-- the first of these lines as a line of this side behind which so many are left
unfoldable pub first_line : Side → ℕ → ℕ → List (List ℕ) → Result (Marked × Ahead) Fault
first_line side left number [] = Err (fault number kinds.ShortEnd)
first_line side left number (line ∷ rest) = do
  m ← marked_at number side line
  ended_by m left (ahead (number + 1) rest) (after_backslash rest)

-- a line of this side behind which so many are left
abbrev pub line_at : Side → ℕ → Ahead → Result (Marked × Ahead) Fault
line_at side left p = first_line side left p.number p.rest

-- so many lines of this side, behind those that were read before
unfoldable pub stretch_at : Side → ℕ → List Marked → Ahead → Result (List Marked × Ahead) Fault
stretch_at side zero before p = Ok (before, p)
stretch_at side (suc left) before p = line_at side left p >>= λ x. stretch_at side left (before ++ x.0 ∷ []) x.1

-- a line between the sides, with nothing behind its dashes
abbrev pub ends_divider : Option (List ℕ) → Bool
ends_divider None = false
ends_divider (Some rest) = is_line_end rest

-- '---'
abbrev pub is_divider : List ℕ → Bool
is_divider line = ends_divider (after (45 ∷ 45 ∷ 45 ∷ []) line)

-- the first of these lines as the one between the sides
unfoldable pub first_divider : ℕ → List (List ℕ) → Result (Unit {0} × Ahead) Fault
first_divider number [] = Err (fault number kinds.ShortEnd)
first_divider number (line ∷ rest) = if is_divider line then Ok (tt, ahead (number + 1) rest) else Err (fault number (unmarked line))

-- the line between the sides, which a change has
abbrev pub divider_at : Action → Ahead → Result (Unit {0} × Ahead) Fault
divider_at Add p = Ok (tt, p)
divider_at Change p = first_divider p.number p.rest
divider_at Delete p = Ok (tt, p)
