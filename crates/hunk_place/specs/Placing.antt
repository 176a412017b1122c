-- Where a hunk stands in a list of lines, which are counted from 1 (GNU diffutils manual, "Helping patch Find Inexact Matches").
use Rattle.std.specs.Prelude.{ℕ, suc, ◌+◌, ◌-◌, ◌<◌, ◌≤◌, max, min, ℤ, pos, negsuc, ◌+ℤ◌, List, [], ◌∷◌, length, Bool, ◌==◌, ◌&&◌, nat_lt, nat_le, if◌then◌else◌, Option, None, Some, find}
use Rattle.std.specs.List.{list_all, range_with_len}
use Rattle.line_store.specs.Store.{line_at}
use Rattle.hunk_core.specs.PlainHunk.{Marked, PlainHunk, old_lines}
use Rattle.hunk_core.specs.Turned.{leading, trailing, base}
use Rattle.hunk_place.specs.Loose.{same_line}
use Rattle.hunk_place.specs.Order.{from_to, distance, by_distance}
use Rattle.hunk_place.specs.declared.Spot.{Spot}
use Rattle.hunk_place.specs.declared.PlaceState.{PlaceState}

-- the old lines, all but the first `front` and the last `back`, equal the lines from w + front on
unfoldable pub fits : List (List ℕ) → List (List ℕ) → Bool → ℕ → ℕ → ℕ → Bool
fits lines old loose front back w = list_all (λ i. same_line loose (line_at old i) (line_at lines (w + i - 1))) (from_to (front + 1) (length old - back))

-- the old lines that are compared lie in a list of so many lines
abbrev pub IsWithin : ℕ → ℕ → ℕ → ℕ → ℕ → Type 0
IsWithin count old_count front back w = front + back < old_count → (1 ≤ w + front) × (w + old_count ≤ count + 1 + back)

-- what a place is looked for with
pub record Search : Type 0 where
  pub lines : List (List ℕ)
  pub old : List (List ℕ)
  -- the stated old start
  pub start : ℕ
  -- the lines of context that lead and trail
  pub pre : ℕ
  pub post : ℕ
  -- the last line that an earlier hunk consumed
  pub consumed : ℕ
  pub guess : ℤ
  pub loose : Bool

-- the lines of context on the side that has more
abbrev pub context : Search → ℕ
context s = max s.pre s.post

-- how many lines of context are left out at fuzz k, in front and at the back
abbrev pub front_fuzz : Search → ℕ → ℕ
front_fuzz s k = k - (context s - s.pre)

abbrev pub back_fuzz : Search → ℕ → ℕ
back_fuzz s k = k - (context s - s.post)

-- the room at fuzz k: behind what was consumed, and so that the lines that are compared end within the list
abbrev pub lowest : Search → ℕ
lowest s = s.consumed + 1

abbrev pub highest : Search → ℕ → ℕ
highest s k = (length s.lines + 1 + back_fuzz s k) - length s.old

-- the one number w, if it lies from low to high
abbrev pub one_in : ℕ → ℕ → ℕ → List ℕ
one_in low high w = if nat_le low w && nat_le w high then w ∷ [] else []

-- the places at fuzz k, in the order in which they are tried: the first line alone where the hunk lacks leading context and is stated there, the end alone where it lacks trailing context, else all of the room, the nearest to the guess first
unfoldable pub tries : Search → ℕ → List ℕ
tries s k =
    if nat_lt k (context s - s.pre) && (s.start == 1) then one_in (lowest s) (highest s k) 1
    else if nat_lt k (context s - s.post) then one_in (lowest s) (highest s k) (length s.lines + 1 - length s.old)
    else by_distance (distance s.guess) (from_to (lowest s) (highest s k))

-- the first of them where the hunk fits
unfoldable pub first_fit : Search → ℕ → Option ℕ
first_fit s k = find (fits s.lines s.old s.loose (front_fuzz s k) (back_fuzz s k)) (tries s k)

-- this place, if there is one, else the other
abbrev pub spot_or : ℕ → Option ℕ → Option Spot → Option Spot
spot_or k (Some w) other = Some (record { line = w; fuzz = k })
spot_or k None other = other

-- the first place for the first of these fuzzes that has one
unfoldable pub least_fuzz : Search → List ℕ → Option Spot
least_fuzz s [] = None
least_fuzz s (k ∷ ks) = spot_or k (first_fit s k) (least_fuzz s ks)

-- a hunk without old lines stands at its guess
abbrev pub at_guess : ℕ → ℕ → ℤ → Option Spot
at_guess low high (pos w) = if nat_le low w && nat_le w high then Some (record { line = w; fuzz = 0 }) else None
at_guess low high (negsuc w) = None

-- the place: the guess for a hunk without old lines, else the first place for the least fuzz
unfoldable pub place : Search → ℕ → Option Spot
place s fuzz = if length s.old == 0 then at_guess (lowest s) (length s.lines + 1) s.guess else least_fuzz s (from_to 0 (min fuzz (context s)))

-- the search for a change in a list of lines
abbrev pub search_of : List (List ℕ) → Bool → PlainHunk → PlaceState → Search
search_of lines loose c state = record {
  lines = lines;
  old = old_lines c.body;
  start = c.old_start;
  pre = leading c.body;
  post = trailing c.body;
  consumed = state.consumed;
  guess = pos (base c) +ℤ state.offset;
  loose = loose;
}
