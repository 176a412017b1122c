-- Which of several names is the best (GNU diffutils manual, "Multiple Patches in a File").
-- With option -d one directory stands in front of all of them. It adds the same to each count here, so which name is better doesn't depend on it.
use Rattle.std.specs.Prelude.{◌≡◌, ℕ, ◌<◌, List, [], length, slice_index_or, Bool, true, false, not, ◌&&◌, ◌==◌, nat_lt, if◌then◌else◌, Option}
use Rattle.std.specs.List.{list_any, position}
use Rattle.outside.specs.Names.{components, last_component}

-- a smaller count; where both are equal, better by what is asked next
abbrev pub smaller_then : (List ℕ → ℕ) → (List ℕ → List ℕ → Bool) → List ℕ → List ℕ → Bool
smaller_then count next a b = if count a == count b then next a b else nat_lt (count a) (count b)

abbrev pub component_count : List ℕ → ℕ
component_count name = length (components name)

abbrev pub last_length : List ℕ → ℕ
last_length name = length (last_component name)

abbrev pub is_shorter : List ℕ → List ℕ → Bool
is_shorter a b = nat_lt (length a) (length b)

-- the first name has fewer components, or else a shorter last component, or else is shorter; in bytes
abbrev pub is_better : List ℕ → List ℕ → Bool
is_better a b = smaller_then component_count (smaller_then last_length is_shorter) a b

-- the place, counted from 0, of the first admitted name than which no admitted name is better
unfoldable pub best_among : (List ℕ → Bool) → List (List ℕ) → Option ℕ
best_among admits names = position (λ n. admits n && not (list_any (λ m. admits m && is_better m n) names)) names

-- the name at a place
abbrev pub name_at : List (List ℕ) → ℕ → List ℕ
name_at names k = slice_index_or names k []

-- ---- what the best is, in words of its own

-- it is one of the admitted names, none of them is better, and it is better than each of those in front of it
pub record IsBest (admits : List ℕ → Bool) (names : List (List ℕ)) (k : ℕ) : Type 0 where
  pub within : k < length names
  pub admitted : admits (name_at names k) ≡ true
  pub unbeaten : (j : ℕ) → j < length names → admits (name_at names j) ≡ true → is_better (name_at names j) (name_at names k) ≡ false
  pub first : (j : ℕ) → j < k → admits (name_at names j) ≡ true → is_better (name_at names k) (name_at names j) ≡ true

-- none of the names is admitted
abbrev pub IsNone : (List ℕ → Bool) → List (List ℕ) → Type 0
IsNone admits names = (j : ℕ) → j < length names → admits (name_at names j) ≡ false
