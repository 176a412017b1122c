-- Numbers for names, from 0 in the order in which the names first come.
use Rattle.std.specs.Prelude.{◌≡◌, ℕ, ◌<◌, List, [], ◌∷◌, ◌++◌, map, length, All, ◌==◌, if◌then◌else◌, bytes_eq, string_bytes, Bool, String}
use Rattle.std.specs.List.{position, position_or_len, find, list_any, range_with_len}
use Rattle.std.specs.Option.{option_map_or}
use Rattle.std.specs.BTreeMap.{BTreeMap, get_by_text, values}

-- the number of a name among distinct names: its place, from 0
abbrev pub number_in : List (List ℕ) → List ℕ → ℕ
number_in names name = position_or_len (bytes_eq name) names

abbrev pub is_among : List (List ℕ) → List ℕ → Bool
is_among names name = list_any (bytes_eq name) names

-- the names with this one at their end, unless it is among them
abbrev pub with_name : List (List ℕ) → List ℕ → List (List ℕ)
with_name names name = if is_among names name then names else names ++ name ∷ []

-- these names, and behind them those of the others that are new, in the order in which they first come
unfoldable pub joined_by : List (List ℕ) → List (List ℕ) → List (List ℕ)
joined_by names [] = names
joined_by names (other ∷ others) = joined_by (with_name names other) others

-- the distinct names, in the order in which they first come
abbrev pub distinct : List (List ℕ) → List (List ℕ)
distinct names = joined_by [] names

-- the number of each name
abbrev pub numbered : List (List ℕ) → List ℕ
numbered names = map (number_in (distinct names)) names

-- ---- a map from texts to their numbers

-- the text with this number
abbrev pub text_numbered : {Y : Type 0} → List (String Y × ℕ) → ℕ → List ℕ
text_numbered entries n = option_map_or (λ e. string_bytes e.0) (find (λ e. e.1 == n) entries) []

-- the texts in the order of their numbers
unfoldable pub texts : {Y : Type 0} → BTreeMap (String Y) ℕ → List (List ℕ)
texts m = map (text_numbered m.entries) (range_with_len 0 (length m.entries))

-- each text has its place among the texts as its number
pub record AreNumbered {Y : Type 0} (m : BTreeMap (String Y) ℕ) : Type 0 where
  pub places : (q : List ℕ) → get_by_text m q ≡ position (bytes_eq q) (texts m)
  pub below : All (λ n. n < length m.entries) (values m)
