-- What is seen of lines one by one, and of the numbers of a block.
use Rattle.std.specs.Prelude.{◌≡◌, ℕ, ◌+◌, ◌-◌, Bool, false, not, nat_lt, ◌||◌, List, [], ◌∷◌}
use Rattle.hunk_core.specs.declared.Form.{Form}
use Rattle.hunk_core.specs.declared.Form.TheVariants.{Unified, Context, Normal, Ed}
use Rattle.hunk_core.specs.LineTests.{ends_line}
use Rattle.hunk_core.specs.Rules.{lacks_inner_end, is_too_large}
use Rattle.format_convert.specs.Commands.{range_start}
use Rattle.format_convert.specs.Walk.{new_start}
use Rattle.format_convert.specs.declared.block.Block.{Block as Size}
use Rattle.format_convert.specs.declared.fitting.OpenEnds.{OpenEnds}
use Rattle.format_convert.specs.declared.normal.Net.{Net}

-- the last of some lines has no line feed
abbrev pub ends_open : List (List ℕ) → Bool
ends_open [] = false
ends_open (line ∷ []) = not (ends_line line)
ends_open (line ∷ next ∷ more) = ends_open (next ∷ more)

-- what was seen of these lines
pub record Sees (s : OpenEnds) (ls : List (List ℕ)) : Type 0 where
  pub end : s.open_end ≡ ends_open ls
  pub inside : s.open_inside ≡ lacks_inner_end ls

-- the first line or the last one of a range has too large a number; without lines the last one is that in front of it
abbrev pub is_over_ed : ℕ → ℕ → Bool
is_over_ed first drops = nat_lt 4294967295 first || nat_lt 4294967295 (first + drops - 1)

-- a command of this form has too large a number
abbrev pub is_large : Form → Net → Size → Bool
is_large Unified n b = false
is_large Context n b = false
is_large Normal n b = is_too_large (range_start b.first b.drops) b.drops || is_too_large (range_start (new_start n b) b.adds) b.adds
is_large Ed n b = is_over_ed b.first b.drops
