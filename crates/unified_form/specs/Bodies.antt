-- The body of a hunk, read line by line.
use Rattle.std.specs.Prelude.{ℕ, zero, suc, ◌+◌, ◌-◌, Bool, ◌==◌, ◌&&◌, ◌||◌, List, [], ◌∷◌, Option, None, Some, Result, Ok, Err, if◌then◌else◌}
use Rattle.hunk_core.specs.declared.Mark.{Mark}
use Rattle.hunk_core.specs.declared.Mark.TheVariants.{Keep, Drop, Add}
use Rattle.hunk_core.specs.declared.BadKind.TheVariants as kinds
use Rattle.hunk_core.specs.PlainHunk.{Marked}
use Rattle.hunk_core.specs.LineTests.{marked, unended, is_backslash, after_backslash}
use Rattle.hunk_core.specs.Reading.{Fault, fault, ◌>>=◌, Ahead, ahead}
use Rattle.unified_form.specs.declared.body.Left.{Left}

-- a mark, and what stands behind it; a line that is empty or begins with a tab is kept, and has lost the blank in front of it
abbrev pub mark_at : List ℕ → Option Marked
mark_at [] = None
mark_at (b ∷ bytes) = if b == 32 then Some (marked Keep bytes)
    else if b == 45 then Some (marked Drop bytes)
    else if b == 43 then Some (marked Add bytes)
    else if b == 10 || b == 9 then Some (marked Keep (b ∷ bytes))
    else None

-- a line of a body has a mark
abbrev pub must_be_marked : ℕ → List ℕ → Option Marked → Result Marked Fault
must_be_marked number line (Some m) = Ok m
must_be_marked number line None = Err (fault number (if is_backslash line then kinds.MisplacedBackslash else kinds.Mark))

-- the mark of a line of a body, or why it has none
abbrev pub marked_at : ℕ → List ℕ → Result Marked Fault
marked_at number line = must_be_marked number line (mark_at line)

-- what is left after a line with this mark
abbrev pub room_at : ℕ → Mark → Left → Result Left Fault
room_at number Keep left = if left.old == 0 || left.new == 0 then Err (fault number kinds.Count) else Ok (record { old = left.old - 1; new = left.new - 1 })
room_at number Drop left = if left.old == 0 then Err (fault number kinds.Count) else Ok (record { old = left.old - 1; new = left.new })
room_at number Add left = if left.new == 0 then Err (fault number kinds.Count) else Ok (record { old = left.old; new = left.new - 1 })

-- the line is the last of its sides, with this left behind it
abbrev pub is_last_line : Mark → Left → Bool
is_last_line Keep left = left.old == 0 && left.new == 0
is_last_line Drop left = left.old == 0
is_last_line Add left = left.new == 0

-- a line with what is left, and whether a backslash line follows it
abbrev pub ended_by : ℕ → Marked → Left → List (List ℕ) → Option (List (List ℕ)) → Result (Marked × Left × Ahead) Fault
ended_by number m left rest None = Ok (m, left, ahead (number + 1) rest)
ended_by number m left rest (Some more) = if is_last_line m.mark left then Ok (unended m, left, ahead (number + 2) more) else Err (fault (number + 1) kinds.MisplacedBackslash)

-- the first of these lines as a line of a body with this left, what is left behind it, and what is ahead
unfoldable pub first_line : Left → ℕ → List (List ℕ) → Result (Marked × Left × Ahead) Fault
first_line left number [] = Err (fault number kinds.ShortEnd)
first_line left number (line ∷ rest) = do
  m ← marked_at number line
  room ← room_at number m.mark left
  ended_by number m room rest (after_backslash rest)

-- a line of the body
abbrev pub line_at : Left → Ahead → Result (Marked × Left × Ahead) Fault
line_at left p = first_line left p.number p.rest

-- a body with at most this many lines, and with these counts
unfoldable pub body_at : ℕ → Left → Ahead → Result (List Marked × Ahead) Fault
body_at zero left p = Ok ([], p)
body_at (suc most) left p = if left.old + left.new == 0 then Ok ([], p) else do
  first ← line_at left p
  others ← body_at most first.1 first.2
  Ok (first.0 ∷ others.0, others.1)
