use Rattle.std.proofs.Common.{◌-◌, Bool, cond, ap, sym, ◌∙◌}
use Rattle.format_convert.proofs.Bounds.{less-none}
use Rattle.format_convert.proofs.ed.left_behind.Goals as goal

pub overflow_sub-result : goal.overflow_sub-result
overflow_sub-result c = c.requires c.if-edit.true

pub returns-else-edit : goal.returns-else-edit
returns-else-edit c = less-none c.args.left ∙ ap (λ (b : Bool). c.args.left - cond b 1 0) (sym c.if-edit.false)

pub returns-then-edit : goal.returns-then-edit
returns-then-edit c = ap (λ (b : Bool). c.args.left - cond b 1 0) (sym c.if-edit.true)
