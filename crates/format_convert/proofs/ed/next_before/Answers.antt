use Rattle.std.proofs.Common.{◌-◌, Bool, cond, ap, sym, ◌∙◌}
use Rattle.format_convert.proofs.Bounds.{less-none}
use Rattle.format_convert.proofs.ed.next_before.Goals as goal

pub overflow_sub-result : goal.overflow_sub-result
overflow_sub-result c = c.requires (sym c.is_taken.ensures ∙ c.if-is_taken.true)

pub returns-else-is_taken : goal.returns-else-is_taken
returns-else-is_taken c = less-none c.args.next ∙ ap (λ (b : Bool). c.args.next - cond b 1 0) (sym c.if-is_taken.false ∙ c.is_taken.ensures)

pub returns-then-is_taken : goal.returns-then-is_taken
returns-then-is_taken c = ap (λ (b : Bool). c.args.next - cond b 1 0) (sym c.if-is_taken.true ∙ c.is_taken.ensures)
