-- Where lines stand in their text.
use Rattle.std.specs.Prelude.{ℕ, ◌+◌, ◌<◌, ◌≤◌, List, [], ◌∷◌, length}

-- the places of lines that stand one after another from `at` on, each from its first byte up to the next line's
unfoldable pub places : ℕ → List (List ℕ) → List (ℕ × ℕ)
places at [] = []
places at (line ∷ more) = (at, at + length line) ∷ places (at + length line) more

-- a place of a line: one byte or more of the text
pub record IsWithin (text : List ℕ) (place : ℕ × ℕ) : Type 0 where
  pub some : place.0 < place.1
  pub high : place.1 ≤ length text
