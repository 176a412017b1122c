use Rattle.std.proofs.Common.{ℕ, ◌≤◌, ◌^◌, sym, ap, subst, ◌∙◌}
use Rattle.format_convert.specs.Commands.{range_start}
use Rattle.format_convert.specs.Walk.{new_start}
use Rattle.format_convert.proofs.Bounds.{adds-low, first-low, new-low, range-low}
use Rattle.format_convert.proofs.fitting.is_large_normal.Goals as goal

pub is_over-requires-else-is_over-clause-start : goal.is_over-requires-else-is_over-clause-start
is_over-requires-else-is_over-clause-start c = subst (λ (n : ℕ). n ≤ 2 ^ 60) (sym (c.range_start-else-is_over.ensures ∙ ap (λ (n : ℕ). range_start n c.args.block.adds) c.new_first.ensures)) (range-low (new_start c.args.net c.args.block) c.args.block.adds (new-low c.args.net c.args.block c.requires))

pub is_over-requires-else-is_over-clause-count : goal.is_over-requires-else-is_over-clause-count
is_over-requires-else-is_over-clause-count c = adds-low c.args.net c.args.block c.requires

pub is_over-requires-clause-start : goal.is_over-requires-clause-start
is_over-requires-clause-start c = subst (λ (n : ℕ). n ≤ 2 ^ 60) (sym c.range_start.ensures) (range-low c.args.block.first c.args.block.drops (first-low c.args.net c.args.block c.requires))
