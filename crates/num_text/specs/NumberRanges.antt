-- A number, or two with a comma between them.
use Rattle.std.specs.Prelude.{◌≡◌, ℕ, ◌-◌, ◌^◌, ◌≤◌, min, Bool, true, false, nat_lt, ◌==◌, List, [], ◌∷◌, ◌++◌, slice_index_or, Option, None, Some, if◌then◌else◌}
use Rattle.num_text.specs.Numbers.{number_at, IsNumeral}
use Rattle.num_text.specs.declared.range.NumberRange.{NumberRange}

-- what a function returned, seen by view, is what reading gives
abbrev pub IsReadAs : {X Y : Type 0} → (X → Y) → Option X → Option Y → Type 0
IsReadAs view (Some x) read = read ≡ Some (view x)
IsReadAs view None read = read ≡ None

-- a number counts as 2 ^ 32 where it is larger
abbrev pub capped : Option (ℕ × List ℕ) → Option (ℕ × List ℕ)
capped None = None
capped (Some n) = Some (min n.0 (2 ^ 32), n.1)

-- a number, and what stands after it
abbrev pub capped_at : List ℕ → Option (ℕ × List ℕ)
capped_at bytes = capped (number_at bytes)

-- one number, which counts as both
abbrev pub one : ℕ → NumberRange
one n = record { first = min n (2 ^ 32); last = min n (2 ^ 32); is_single = true; is_turned = false }

-- two numbers
abbrev pub two : ℕ → ℕ → NumberRange
two n m = record { first = min n (2 ^ 32); last = min m (2 ^ 32); is_single = false; is_turned = nat_lt m n }

-- a second number behind the comma
abbrev pub with_second : ℕ → Option (ℕ × List ℕ) → Option (NumberRange × List ℕ)
with_second n None = None
with_second n (Some m) = Some (two n m.0, m.1)

-- what follows the first number
abbrev pub behind_first : ℕ → List ℕ → Option (NumberRange × List ℕ)
behind_first n [] = Some (one n, [])
behind_first n (b ∷ bytes) = if b == 44 then with_second n (number_at bytes) else Some (one n, b ∷ bytes)

-- the first number, if there is one
abbrev pub from_first : Option (ℕ × List ℕ) → Option (NumberRange × List ℕ)
from_first None = None
from_first (Some n) = behind_first n.0 n.1

-- a number, or two with a comma, and what stands after them
unfoldable pub range_at : List ℕ → Option (NumberRange × List ℕ)
range_at bytes = from_first (number_at bytes)

-- no end is above 2 ^ 32
pub record HasSmallEnds (r : NumberRange) : Type 0 where
  pub first : r.first ≤ 2 ^ 32
  pub last : r.last ≤ 2 ^ 32

-- a text spells the numbers from first to last: one number where they are one, or two with a comma
abbrev pub SpellsRange : List ℕ → Bool → ℕ → ℕ → Type 0
SpellsRange text true first last = (last ≡ first) × IsNumeral text first
SpellsRange text false first last = (ds : List ℕ) × (cs : List ℕ) × IsNumeral ds first × IsNumeral cs last × (text ≡ ds ++ 44 ∷ cs)

-- the digit that stands so far before the end of a run; in front of the run it is 0
abbrev pub place_value : List ℕ → ℕ → ℕ → ℕ
place_value bytes end far = if nat_lt end far then 0 else (slice_index_or bytes (end - far) 0) - 48
