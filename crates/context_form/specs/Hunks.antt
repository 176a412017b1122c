-- Hunks that follow each other, read line by line.
use Rattle.std.specs.Prelude.{ℕ, ◌&&◌, ◌+◌, Bool, false, not, nat_lt, List, [], ◌∷◌, length, Option, None, Some, is_some, Result, Ok, Err, if◌then◌else◌}
use Rattle.hunk_core.specs.declared.BadKind.{BadKind}
use Rattle.hunk_core.specs.declared.BadKind.TheVariants as kinds
use Rattle.hunk_core.specs.declared.Side.{Side}
use Rattle.hunk_core.specs.declared.Side.TheVariants.{Forward, Reversed}
use Rattle.hunk_core.specs.PlainHunk.{Marked, PlainHunk}
use Rattle.hunk_core.specs.LineTests.{after_backslash}
use Rattle.hunk_core.specs.Reading.{Fault, fault, ◌>>=◌, Ahead, ahead}
use Rattle.hunk_core.specs.Following.{hunks_by, reading_by}
use Rattle.context_form.specs.declared.range.Stated.{Stated}
use Rattle.context_form.specs.declared.hunks.Part.{Part}
use Rattle.context_form.specs.Openings.{begins_hunk}
use Rattle.context_form.specs.Ranges.{range_line, most, is_count}
use Rattle.context_form.specs.Parts.{PlainBody, plain_of, no_body, body_at}
use Rattle.context_form.specs.Merging.{joined, size_beside}
use Rattle.context_form.specs.Presence.{is_new, begins_old_part}

-- a part with its range line, which has this number
pub record PlainPart : Type 0 where
  pub number : ℕ
  pub stated : Stated
  pub body : PlainBody

-- what a part stands for over a text
abbrev pub part_over : List ℕ → Part → PlainPart
part_over text p = record { number = p.number; stated = p.stated; body = plain_of text p.body }

-- what a range line states, or the fault of this line
abbrev pub at_line : ℕ → Result Stated BadKind → Result Stated Fault
at_line number (Ok s) = Ok s
at_line number (Err kind) = Err (fault number kind)

-- the first of these lines as the range line of this part, which starts at least
unfoldable pub first_range : Side → ℕ → ℕ → List (List ℕ) → Result (Stated × Ahead) Fault
first_range side least number [] = Err (fault number kinds.ShortEnd)
first_range side least number (line ∷ rest) = at_line number (range_line side least line) >>= λ s. Ok (s, ahead (number + 1) rest)

-- a range line
abbrev pub range_here : Side → ℕ → Ahead → Result (Stated × Ahead) Fault
range_here side least p = first_range side least p.number p.rest

-- behind one number, the first line of a part makes its count 1: the start and the count don't come above the greatest number
abbrev pub fitting : ℕ → Stated → Bool → Result (Unit {0}) Fault
fitting number s there = if there && nat_lt 4294967295 (s.start + most s) then Err (fault number kinds.NumberTooLarge) else Ok tt

-- the old part, which starts at least: its range line, and the lines up to the range line of the new part
unfoldable pub old_part : ℕ → Ahead → Result (PlainPart × Ahead) Fault
old_part least p = do
  s ← range_here Forward least p
  fits ← fitting p.number s.0 (begins_old_part s.1.rest)
  b ← body_at Forward (most s.0) no_body s.1
  Ok (record { number = p.number; stated = s.0; body = b.0 }, b.1)

-- an old part that isn't left out has too few lines
abbrev pub too_few : Stated → List Marked → Bool
too_few s [] = false
too_few s (m ∷ part) = not (is_count s (length (m ∷ part)))

-- the old part has the stated number of lines, or the fault of this line
abbrev pub enough : ℕ → PlainPart → Result (Unit {0}) Fault
enough number old = if too_few old.stated old.body.lines then Err (fault number kinds.Count) else Ok tt

-- how many lines are read of the new part
abbrev pub new_count : Stated → PlainBody → List (List ℕ) → ℕ
new_count s old rest = if is_new s old rest then most s else 0

-- the new part behind this old part: its range line, and its lines
unfoldable pub new_part : PlainPart → Ahead → Result (PlainPart × Ahead) Fault
new_part old p = do
  s ← range_here Reversed 0 p
  fits ← fitting p.number s.0 (is_new s.0 old.body s.1.rest)
  few ← enough p.number old
  b ← body_at Reversed (new_count s.0 old.body s.1.rest) no_body s.1
  Ok (record { number = p.number; stated = s.0; body = b.0 }, b.1)

-- a part with this partner has the stated number of lines, and none is above the greatest number
abbrev pub sized : PlainPart → PlainPart → Result (Unit {0}) Fault
sized part partner = if not (is_count part.stated (size_beside part.body partner.body)) then Err (fault part.number kinds.Count)
    else if nat_lt 4294967295 (part.stated.start + size_beside part.body partner.body) then Err (fault part.number kinds.NumberTooLarge)
    else Ok tt

-- the parts agree, or the fault of this line
abbrev pub agreed : ℕ → Option (List Marked) → Result (List Marked) Fault
agreed number None = Err (fault number kinds.SidesDiffer)
agreed number (Some body) = Ok body

-- the tests over two whole parts, and the hunk that they make
unfoldable pub whole : PlainPart → PlainPart → Result PlainHunk Fault
whole old new = do
  a ← sized old new
  b ← sized new old
  body ← agreed new.number (joined old.body new.body)
  Ok (record { old_start = old.stated.start; new_start = new.stated.start; body = body })

-- no backslash line stands behind a hunk
abbrev pub quiet : Ahead → Result (Unit {0}) Fault
quiet p = if is_some (after_backslash p.rest) then Err (fault p.number kinds.MisplacedBackslash) else Ok tt

-- both parts
unfoldable pub parts_at : ℕ → Ahead → Result ((PlainPart × PlainPart) × Ahead) Fault
parts_at least p = do
  old ← old_part least p
  new ← new_part old.0 old.1
  Ok ((old.0, new.0), new.1)

-- a hunk whose line of asterisks is the first of these lines, and what is ahead behind it
unfoldable pub first_hunk : ℕ → ℕ → List (List ℕ) → Result (PlainHunk × Ahead) Fault
first_hunk least number [] = Err (fault number kinds.ShortEnd)
first_hunk least number (line ∷ rest) = do
  parts ← parts_at least (ahead (number + 1) rest)
  h ← whole parts.0.0 parts.0.1
  done ← quiet parts.1
  Ok (h, parts.1)

-- a hunk that starts at least
abbrev pub hunk_at : ℕ → Ahead → Result (PlainHunk × Ahead) Fault
hunk_at least p = first_hunk least p.number p.rest

-- at most so many hunks that follow each other
abbrev pub hunks_at : ℕ → ℕ → Ahead → Result (List PlainHunk × Ahead) Fault
hunks_at most least p = hunks_by begins_hunk hunk_at most least p

-- the hunks at the front of these lines, and what stands behind them, or the first fault. The tests over both parts come
-- once both are read: old count, new count, whether they differ. Those on a range line come before. One number states no
-- count; a part that is left out has that of the lines that the other one keeps
abbrev pub reading : ℕ → List (List ℕ) → Result (List PlainHunk × Ahead) Fault
reading number rest = reading_by begins_hunk hunk_at number rest
