use Rattle.std.proofs.Common.{◌+◌, Bool, cond, ap, sym, ◌∙◌}
use Rattle.format_convert.proofs.Bounds.{stays}
use Rattle.format_convert.proofs.block.with_edit.Goals as goal

pub returns-else-found-clause-adds : goal.returns-else-found-clause-adds
returns-else-found-clause-adds c = stays c.args.block.adds ∙ ap (λ (b : Bool). c.args.block.adds + cond b 1 0) (sym c.if-found.false)

pub returns-then-found-clause-drops : goal.returns-then-found-clause-drops
returns-then-found-clause-drops c = stays c.args.block.drops ∙ ap (λ (b : Bool). c.args.block.drops + cond b 0 1) (sym c.if-found.true)

pub returns-else-found-clause-drops : goal.returns-else-found-clause-drops
returns-else-found-clause-drops c = ap (λ (b : Bool). c.args.block.drops + cond b 0 1) (sym c.if-found.false)

pub returns-then-found-clause-adds : goal.returns-then-found-clause-adds
returns-then-found-clause-adds c = ap (λ (b : Bool). c.args.block.adds + cond b 1 0) (sym c.if-found.true)
