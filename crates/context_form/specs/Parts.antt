-- The lines of a part, read line by line.
use Rattle.std.specs.Prelude.{ℕ, zero, suc, ◌+◌, Bool, true, false, ◌==◌, ◌||◌, List, [], ◌∷◌, ◌++◌, drop, Option, None, Some, is_some, Result, Ok, Err, if◌then◌else◌}
use Rattle.hunk_core.specs.declared.Mark.{Mark}
use Rattle.hunk_core.specs.declared.Mark.TheVariants as its
use Rattle.hunk_core.specs.declared.Side.{Side}
use Rattle.hunk_core.specs.declared.Side.TheVariants.{Forward, Reversed}
use Rattle.hunk_core.specs.declared.BadKind.TheVariants as kinds
use Rattle.hunk_core.specs.PlainHunk.{Marked, body_of}
use Rattle.hunk_core.specs.LineTests.{after, marked, unended, after_backslash}
use Rattle.hunk_core.specs.Reading.{Fault, fault, ◌>>=◌, Ahead, ahead}
use Rattle.hunk_core.specs.Sides.{own_mark}
use Rattle.hunk_core.specs.Refusals.{unmarked}
use Rattle.context_form.specs.declared.part.Body.{Body}
use Rattle.context_form.specs.Ranges.{before_range}

-- '-' for a line that is dropped, '+' for one that is added
abbrev pub own_byte : Side → ℕ
own_byte Forward = 45
own_byte Reversed = 43

-- what stands before the space of a mark: a space, '!', or the sign of this side; and whether it is '!'
abbrev pub mark_by : Side → ℕ → Option (Mark × Bool)
mark_by side b = if b == 32 then Some (its.Keep, false)
    else if b == 33 then Some (own_mark side, true)
    else if b == own_byte side then Some (own_mark side, false)
    else None

-- the mark of a line of this part that lost no blank, two bytes, and whether it is '! '
abbrev pub mark_at : Side → List ℕ → Option (Mark × Bool)
mark_at side [] = None
mark_at side (b ∷ []) = None
mark_at side (b ∷ c ∷ bytes) = if c == 32 then mark_by side b else None

-- a line of a part without its mark, and whether that was '!'
abbrev pub Shown : Type 0
Shown = Marked × Bool

-- what stands behind a mark, without one blank or tab, if that comes first. `diff -T` writes a tab behind a mark, so a line
-- of text that begins with a tab loses it where its blank is lost, as with GNU patch
abbrev pub behind_blank : List ℕ → List ℕ
behind_blank [] = []
behind_blank (c ∷ bytes) = if c == 32 then bytes else if c == 9 then bytes else c ∷ bytes

-- a mark is taken off, and the blank behind it
abbrev pub taken_off : List ℕ → Option (Mark × Bool) → Option Shown
taken_off bytes None = None
taken_off bytes (Some m) = Some (marked m.0 (behind_blank bytes), m.1)

-- a line of this part without its mark; an empty line is kept, and has lost both blanks
abbrev pub shown_at : Side → List ℕ → Option Shown
shown_at side [] = None
shown_at side (b ∷ bytes) = if b == 10 then Some (marked its.Keep (b ∷ bytes), false) else taken_off bytes (mark_by side b)

-- a line of this part has a mark, or is empty
abbrev pub must_be_marked : ℕ → List ℕ → Option Shown → Result Shown Fault
must_be_marked number line None = Err (fault number (unmarked line))
must_be_marked number line (Some m) = Ok m

-- a line of this part without its mark, or why it has none
abbrev pub marked_at : ℕ → Side → List ℕ → Result Shown Fault
marked_at number side line = must_be_marked number line (shown_at side line)

-- where no line is left, one more is one too many
abbrev pub room_at : ℕ → ℕ → Shown → Result Shown Fault
room_at number left m = if left == 0 then Err (fault number kinds.Count) else Ok m

-- the line without its line feed
abbrev pub cut : Shown → Shown
cut m = (unended m.0, m.1)

-- a line with what is ahead, and whether that begins with a backslash line, which only the last may have
abbrev pub ended_by : Shown → ℕ → Ahead → Option (List (List ℕ)) → Result (Shown × Ahead) Fault
ended_by m left p None = Ok (m, p)
ended_by m left p (Some more) = if left == 1 then Ok (cut m, ahead (p.number + 1) more) else Err (fault p.number kinds.MisplacedBackslash)

-- the first of these lines as a line of this part, of which so many are left
unfoldable pub first_line : Side → ℕ → ℕ → List (List ℕ) → Result (Shown × Ahead) Fault
first_line side left number [] = Err (fault number kinds.ShortEnd)
first_line side left number (line ∷ rest) = do
  m ← marked_at number side line
  one ← room_at number left m
  ended_by one left (ahead (number + 1) rest) (after_backslash rest)

-- a line of this part, of which so many are left
abbrev pub line_at : Side → ℕ → Ahead → Result (Shown × Ahead) Fault
line_at side left p = first_line side left p.number p.rest

-- '--- ' comes first, as in the range line of a new part
abbrev pub begins_new : List (List ℕ) → Bool
begins_new [] = false
begins_new (line ∷ rest) = is_some (after (before_range Reversed) line)

-- the old part runs up to the first line that begins so, the new part to its last line
abbrev pub is_done : Side → ℕ → List (List ℕ) → Bool
is_done Forward left rest = begins_new rest
is_done Reversed left rest = left == 0

-- the lines of a part, and whether one of them was marked '!'
pub record PlainBody : Type 0 where
  pub lines : List Marked
  pub changed : Bool

-- what the lines of a part stand for over a text
abbrev pub plain_of : List ℕ → Body → PlainBody
plain_of text b = record { lines = body_of text b.lines.items; changed = b.changed }

-- no lines
abbrev pub no_body : PlainBody
no_body = record { lines = []; changed = false }

-- one line more
abbrev pub with_line : PlainBody → Shown → PlainBody
with_line b m = record { lines = b.lines ++ m.0 ∷ []; changed = b.changed || m.1 }

-- the lines of this part, of which so many are left, behind those that were read before
unfoldable pub body_at : Side → ℕ → PlainBody → Ahead → Result (PlainBody × Ahead) Fault
body_at side zero before p = if is_done side 0 p.rest then Ok (before, p) else line_at side 0 p >>= λ x. Ok (with_line before x.0, x.1)
body_at side (suc left) before p = if is_done side (suc left) p.rest then Ok (before, p) else line_at side (suc left) p >>= λ x. body_at side left (with_line before x.0) x.1
