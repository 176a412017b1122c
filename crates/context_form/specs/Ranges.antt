-- The range line of a part.
use Rattle.std.specs.Prelude.{ℕ, ◌+◌, ◌-◌, ◌^◌, ◌<◌, ◌≤◌, Bool, false, nat_lt, ◌==◌, ◌||◌, List, [], ◌∷◌, Option, None, Some, Result, Ok, Err, if◌then◌else◌}
use Rattle.hunk_core.specs.declared.BadKind.{BadKind}
use Rattle.hunk_core.specs.declared.BadKind.TheVariants as kinds
use Rattle.hunk_core.specs.declared.Side.{Side}
use Rattle.hunk_core.specs.declared.Side.TheVariants.{Forward, Reversed}
use Rattle.hunk_core.specs.LineTests.{after}
use Rattle.num_text.specs.declared.range.NumberRange.{NumberRange}
use Rattle.num_text.specs.Numbers.{number_at}
use Rattle.num_text.specs.NumberRanges.{one, two}
use Rattle.hunk_core.specs.OptionSteps.{◌>>=◌}
use Rattle.context_form.specs.declared.range.Stated.{Stated}

-- '*** ' before the range of the old part, '--- ' before that of the new one
abbrev pub before_range : Side → List ℕ
before_range Forward = 42 ∷ 42 ∷ 42 ∷ 32 ∷ []
before_range Reversed = 45 ∷ 45 ∷ 45 ∷ 32 ∷ []

-- '****' behind the range of the old part, '----' behind that of the new one
abbrev pub behind_range : Side → List ℕ
behind_range Forward = 42 ∷ 42 ∷ 42 ∷ 42 ∷ []
behind_range Reversed = 45 ∷ 45 ∷ 45 ∷ 45 ∷ []

-- a space or a tab
abbrev pub is_blank : ℕ → Bool
is_blank b = b == 32 || b == 9

-- what stands behind blanks, of which there may be none
unfoldable pub unblanked : List ℕ → List ℕ
unblanked [] = []
unblanked (b ∷ bytes) = if is_blank b then unblanked bytes else b ∷ bytes

-- a second number behind the comma, and what stands behind it and blanks
abbrev pub with_later : ℕ → Option (ℕ × List ℕ) → Option (NumberRange × List ℕ)
with_later n None = None
with_later n (Some m) = Some (two n m.0, unblanked m.1)

-- what follows the first number and blanks
abbrev pub behind_number : ℕ → List ℕ → Option (NumberRange × List ℕ)
behind_number n [] = Some (one n, [])
behind_number n (b ∷ bytes) = if b == 44 then with_later n (number_at (unblanked bytes)) else Some (one n, b ∷ bytes)

-- the first number, if there is one
abbrev pub from_number : Option (ℕ × List ℕ) → Option (NumberRange × List ℕ)
from_number None = None
from_number (Some n) = behind_number n.0 (unblanked n.1)

-- a number, or two with a comma, with blanks around each, and what stands after them
unfoldable pub spaced_at : List ℕ → Option (NumberRange × List ℕ)
spaced_at bytes = from_number (number_at (unblanked bytes))

-- a range between the stars or the dashes of this part, and any rest behind them
unfoldable pub numbers_at : Side → List ℕ → Option NumberRange
numbers_at side line = do
  first ← after (before_range side) line
  range ← spaced_at first
  rest ← after (behind_range side) range.1
  Some range.0

-- two numbers, the second below the first, or lines that start at 0
abbrev pub is_bad_range : NumberRange → Bool
is_bad_range r = if r.is_single then false else (r.is_turned || r.first == 0)

-- a number, or the start of two with their count, comes above the greatest number
abbrev pub is_too_large : NumberRange → Bool
is_too_large r = if r.is_single then nat_lt 4294967295 r.first else nat_lt 4294967295 (r.first + ((r.last - r.first) + 1))

-- one number states a start, two state a count besides
abbrev pub stated : NumberRange → Stated
stated r = if r.is_single then record { start = r.first; count = None } else record { start = r.first; count = Some ((r.last - r.first) + 1) }

-- the tests on a range in their order
abbrev pub checked : ℕ → NumberRange → Result Stated BadKind
checked least r = if is_bad_range r then Err kinds.Range
    else if is_too_large r then Err kinds.NumberTooLarge
    else if nat_lt r.first least then Err kinds.HunkOrder
    else Ok (stated r)

-- a line that has not the form of a range line is a bad range
abbrev pub from_numbers : ℕ → Option NumberRange → Result Stated BadKind
from_numbers least None = Err kinds.Range
from_numbers least (Some r) = checked least r

-- the range of this part, which starts at least, or why it is none
abbrev pub range_line : Side → ℕ → List ℕ → Result Stated BadKind
range_line side least line = from_numbers least (numbers_at side line)

-- how many lines a part has at most: the stated number; behind one number none for 0, else one
abbrev pub most_by : ℕ → Option ℕ → ℕ
most_by start None = if start == 0 then 0 else 1
most_by start (Some count) = count

-- how many lines a part has at most
abbrev pub most : Stated → ℕ
most s = most_by s.start s.count

-- a part with so many lines is as stated: the stated number; behind one number at most one, and none for 0
abbrev pub is_count_by : ℕ → Option ℕ → ℕ → Bool
is_count_by start None n = if start == 0 then n == 0 else nat_lt n 2
is_count_by start (Some count) n = n == count

-- a part with so many lines is as stated
abbrev pub is_count : Stated → ℕ → Bool
is_count s n = is_count_by s.start s.count n

-- the start, and the stated lines, have no number above the greatest, and lines that are counted start at 1 or more
abbrev pub FitsBy : ℕ → Option ℕ → Type 0
FitsBy start None = start < 2 ^ 32
FitsBy start (Some count) = (start + count < 2 ^ 32) × (1 ≤ start) × (1 ≤ count)

-- its numbers fit
abbrev pub Fits : Stated → Type 0
Fits s = FitsBy s.start s.count
