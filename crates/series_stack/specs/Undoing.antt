-- What a save of some names undoes.
use Rattle.std.specs.Prelude.{◌≡◌, ℕ, List, map, Bool, false, bytes_eq}
use Rattle.std.specs.List.{list_any}
use Rattle.std.specs.FinMap.{get}
use Rattle.outside.specs.Files.{Files, is_temp}
use Rattle.series_stack.specs.Saves.{Entry}
use Rattle.series_stack.specs.Found.{entry_with}

-- what names stand for, as the entries of a save
abbrev pub entries_at : Files → List (List ℕ) → List Entry
entries_at f names = map (λ name. entry_with name (get f name)) names

abbrev pub is_one_of : List (List ℕ) → List ℕ → Bool
is_one_of names q = list_any (λ name. bytes_eq name q) names

-- the same at each name that isn't temporary but at these
pub record SameBeside (names : List (List ℕ)) (old new : Files) : Type 0 where
  pub at : (q : List ℕ) → is_temp q ≡ false → is_one_of names q ≡ false → get new q ≡ get old q
