-- The block that edits begin with: those that follow each other from a gap on without a kept line between.
use Rattle.std.specs.Prelude.{ℕ, Bool, false, not, ◌==◌, List, [], ◌∷◌, ◌++◌, if◌then◌else◌}
use Rattle.hunk_core.specs.declared.Side.{Side}
use Rattle.hunk_core.specs.declared.Side.TheVariants.{Forward, Reversed}
use Rattle.format_convert.specs.Blocks.{Edit, Block, behind}

-- the first edit stands in this gap, or is of the line behind it
abbrev pub begins_at : ℕ → List Edit → Bool
begins_at gap [] = false
begins_at gap (e ∷ es) = e.at == gap

-- an edit drops a line, or of the other side it adds one
abbrev pub is_on : Side → Bool → Bool
is_on Forward adds = not adds
is_on Reversed adds = adds

-- the line of an edit, if it is of this side
abbrev pub line_on : Side → Edit → List (List ℕ)
line_on side e = if is_on side e.adds then e.line ∷ [] else []

-- the lines of one side of the block that begins in this gap
unfoldable pub front : Side → ℕ → List Edit → List (List ℕ)
front side gap [] = []
front side gap (e ∷ es) = if e.at == gap then line_on side e ++ front side (behind e) es else []

-- the edits behind it
unfoldable pub front_rest : ℕ → List Edit → List Edit
front_rest gap [] = []
front_rest gap (e ∷ es) = if e.at == gap then front_rest (behind e) es else e ∷ es

abbrev pub front_block : ℕ → List Edit → Block
front_block gap es = record { first = gap; dropped = front Forward gap es; added = front Reversed gap es }
