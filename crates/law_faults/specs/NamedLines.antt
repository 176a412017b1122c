-- The line that a fault names.
use Rattle.std.specs.Prelude.{◌≡◌, ℕ, ◌+◌, List, ◌∷◌, ◌++◌, length}

-- of these lines, the first of which has this number, one has that number, and this holds of the lines in front of it, of itself and of the lines behind it
pub record NamesLine (Holds : List (List ℕ) → List ℕ → List (List ℕ) → Type 0) (number : ℕ) (lines : List (List ℕ)) (named : ℕ) : Type 0 where
  pub front : List (List ℕ)
  pub line : List ℕ
  pub behind : List (List ℕ)
  pub parts : lines ≡ front ++ line ∷ behind
  pub counted : named ≡ number + length front
  pub holds : Holds front line behind
