-- What a body says of its two parts.
use Rattle.std.proofs.Common.{◌≡◌, true, List, [], ◌∷◌}
use Rattle.hunk_core.specs.declared.Side.{Side}
use Rattle.hunk_core.specs.declared.Side.TheVariants.{Forward, Reversed}
use Rattle.hunk_core.specs.Sides.{is_on_side}
use Rattle.hunk_core.specs.PlainHunk.{Marked}
use Rattle.context_form.specs.Merging.{part_of, DropsFirst}

-- a body shows these two parts, and its dropped lines come first
pub record IsMerge (body olds news : List Marked) : Type 0 where
  pub old_side : part_of Forward body ≡ olds
  pub new_side : part_of Reversed body ≡ news
  pub order : DropsFirst body

-- each line is of this side
abbrev pub AllOn : Side → List Marked → Type 0
AllOn side [] = Unit {0}
AllOn side (m ∷ part) = (is_on_side side m.mark ≡ true) × AllOn side part
