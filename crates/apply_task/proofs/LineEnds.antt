-- The first line of a hunk.
use Rattle.std.proofs.Common.{◌≡◌, ◌<◌, ℕ, List, [], ◌∷◌, ◌++◌, length, refl, arith}
use Rattle.std.specs.Prelude.{slice_index_or}

-- the first of some lines, with others behind them
pub first-front : (xs ys : List (List ℕ)) → 0 < length xs → slice_index_or (xs ++ ys) 0 [] ≡ slice_index_or xs 0 []
first-front [] ys some = absurd (omega arith)
first-front (x ∷ xs) ys some = refl

pub no-lines : (xs : List (List ℕ)) → length xs ≡ 0 → xs ≡ []
no-lines [] none = refl
no-lines (x ∷ xs) none = absurd (omega arith)
