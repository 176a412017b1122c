use Rattle.std.proofs.Common.{sym, ◌∙◌}
use Rattle.outside.proofs.Lawful.{empty_component, some_component}
use Rattle.outside.proofs.name.is_kept.Goals as goal

pub returns-else-not-is_empty : goal.returns-else-not-is_empty
returns-else-not-is_empty c = empty_component c.args.component.now c.is_empty.result c.if-not-is_empty.false c.is_empty.ensures

pub returns-then-not-is_empty : goal.returns-then-not-is_empty
returns-then-not-is_empty c = c.ne.ensures ∙ some_component c.args.component.now (sym c.is_empty.ensures ∙ c.if-not-is_empty.true)
