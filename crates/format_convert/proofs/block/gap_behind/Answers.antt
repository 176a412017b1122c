use Rattle.std.proofs.Common.{◌+◌, Bool, cond, ap, sym}
use Rattle.format_convert.proofs.block.gap_behind.Goals as goal

pub returns-else-edit : goal.returns-else-edit
returns-else-edit c = λ text. ap (λ (b : Bool). cond b c.args.edit.at (c.args.edit.at + 1)) (sym c.if-edit.false)

pub returns-then-edit : goal.returns-then-edit
returns-then-edit c = λ text. ap (λ (b : Bool). cond b c.args.edit.at (c.args.edit.at + 1)) (sym c.if-edit.true)
