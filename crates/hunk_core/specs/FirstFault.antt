-- What makes a fault the first one.
use Rattle.std.specs.Prelude.{◌≡◌, ℕ, ◌+◌, ◌≤◌, ◌<◌, List, [], ◌∷◌}

-- two lists of lines, which begin at this number, are the same up to the line with the last number
abbrev pub AgreeTo : ℕ → ℕ → List (List ℕ) → List (List ℕ) → Type 0
AgreeTo last number [] others = last < number
AgreeTo last number (line ∷ rest) [] = last < number
AgreeTo last number (line ∷ rest) (other ∷ others) = (number ≤ last → line ≡ other) × AgreeTo last (number + 1) rest others
