-- How the matcher goes through a pattern and a name.
use Rattle.std.specs.Prelude.{◌≡◌, ℕ, ◌+◌, ◌<◌, ◌≤◌, if◌then◌else◌, List, [], ◌∷◌, length, drop, slice_index, slice_range}
use Rattle.glob_match.specs.Pattern.{Element, Run, Any, Byte, OneOf, Front, front_of, elements}
use Rattle.glob_match.specs.Matching.{takes, Match}
use Rattle.glob_match.specs.declared.Piece.{Piece}
use Rattle.glob_match.specs.declared.Piece.TheVariants.{Run as RunPiece, Any as AnyPiece, Byte as BytePiece, OneOf as OneOfPiece}
use Rattle.glob_match.specs.declared.Read.{Read}
use Rattle.glob_match.specs.declared.Reach.{Reach}
use Rattle.glob_match.specs.declared.Reach.TheVariants.{Mismatch, Whole, Run as RunReach}

-- the element that a piece of the pattern is
abbrev pub plain : List ℕ → Piece → Element
plain pattern RunPiece = Run
plain pattern AnyPiece = Any
plain pattern (BytePiece b) = Byte b
plain pattern (OneOfPiece is_opposite start end) = OneOf is_opposite (slice_range pattern start end)

-- the places of a set lie in the pattern
abbrev pub LiesIn : List ℕ → Piece → Type 0
LiesIn pattern RunPiece = Unit {0}
LiesIn pattern AnyPiece = Unit {0}
LiesIn pattern (BytePiece b) = Unit {0}
LiesIn pattern (OneOfPiece is_opposite start end) = (start ≤ end) × (end ≤ length pattern)

-- what was read is this element at the front of the pattern from `at` on
pub record IsFront (pattern : List ℕ) (at : ℕ) (front : Front) (read : Read) : Type 0 where
  pub element : plain pattern read.piece ≡ front.element
  pub next : read.next ≡ at + front.size
  pub low : at < read.next
  pub high : read.next ≤ length pattern
  pub lies : LiesIn pattern read.piece

-- the element at a place, and the place after it
abbrev pub IsRead : List ℕ → ℕ → Read → Type 0
IsRead pattern at read = IsFront pattern at (front_of (slice_index pattern at) (drop (at + 1) pattern)) read

-- where elements of one byte each lead: to a byte that doesn't fit, to the end of the elements, or to a run
pub data Walked : Type 0 where
  Stop : Walked
  Done : List ℕ → Walked
  Met : List Element → List ℕ → Walked

unfoldable pub walked : List Element → List ℕ → Walked
walked [] bs = Done bs
walked (Run ∷ es) bs = Met es bs
walked (Any ∷ es) [] = Stop
walked (Any ∷ es) (b ∷ bs) = walked es bs
walked (Byte c ∷ es) [] = Stop
walked (Byte c ∷ es) (b ∷ bs) = if takes (Byte c) b then walked es bs else Stop
walked (OneOf o ms ∷ es) [] = Stop
walked (OneOf o ms ∷ es) (b ∷ bs) = if takes (OneOf o ms) b then walked es bs else Stop

abbrev pub IsWalk : List ℕ → ℕ → List ℕ → ℕ → Reach → Type 0
IsWalk pattern at name place Mismatch = Match (elements (drop at pattern)) (drop place name) → ⊥
IsWalk pattern at name place Whole = Match (elements (drop at pattern)) (drop place name)
IsWalk pattern at name place (RunReach next end) = (at < next) × (next ≤ length pattern) × (place ≤ end) × (end ≤ length name) × (walked (elements (drop at pattern)) (drop place name) ≡ Met (elements (drop next pattern)) (drop end name))
