use Rattle.std.proofs.Common.{sym, ◌∙◌}
use Rattle.outside.proofs.Given.{given_control, given_empty, given_none}
use Rattle.outside.proofs.name.broken_given.Goals as goal

pub returns-then-has_control : goal.returns-then-has_control
returns-then-has_control c = given_control c.args.text.now c.utf8.text (sym c.has_control.ensures ∙ c.if-has_control.true)

pub returns-then-has_kept : goal.returns-then-has_kept
returns-then-has_kept c = given_none c.args.text.now c.utf8.text (sym c.has_control.ensures ∙ c.if-has_control.false) (sym c.has_kept.ensures ∙ c.if-has_kept.true)

pub returns-else-has_kept : goal.returns-else-has_kept
returns-else-has_kept c = given_empty c.args.text.now c.utf8.text (sym c.has_control.ensures ∙ c.if-has_control.false) (sym c.has_kept.ensures ∙ c.if-has_kept.false)
