use Rattle.std.proofs.Common.{sym, ◌∙◌}
use Rattle.outside.proofs.Lawful.{rule_control, rule_absolute, rule_parent, rule_empty, rule_none}
use Rattle.outside.proofs.name.broken_rule.Goals as goal

pub returns-then-has_control : goal.returns-then-has_control
returns-then-has_control c = rule_control c.args.text.now c.utf8.text (sym c.has_control.ensures ∙ c.if-has_control.true)

pub returns-then-is_absolute : goal.returns-then-is_absolute
returns-then-is_absolute c = rule_absolute c.args.text.now c.utf8.text (sym c.has_control.ensures ∙ c.if-has_control.false) (sym c.is_absolute.ensures ∙ c.if-is_absolute.true)

pub returns-then-has_parent : goal.returns-then-has_parent
returns-then-has_parent c = rule_parent c.args.text.now c.utf8.text (sym c.has_control.ensures ∙ c.if-has_control.false) (sym c.is_absolute.ensures ∙ c.if-is_absolute.false) (sym c.has_parent.ensures ∙ c.if-has_parent.true)

pub returns-then-has_kept : goal.returns-then-has_kept
returns-then-has_kept c = rule_none c.args.text.now c.utf8.text (sym c.has_control.ensures ∙ c.if-has_control.false) (sym c.is_absolute.ensures ∙ c.if-is_absolute.false) (sym c.has_parent.ensures ∙ c.if-has_parent.false) (sym c.has_kept.ensures ∙ c.if-has_kept.true)

pub returns-else-has_kept : goal.returns-else-has_kept
returns-else-has_kept c = rule_empty c.args.text.now c.utf8.text (sym c.has_control.ensures ∙ c.if-has_control.false) (sym c.is_absolute.ensures ∙ c.if-is_absolute.false) (sym c.has_parent.ensures ∙ c.if-has_parent.false) (sym c.has_kept.ensures ∙ c.if-has_kept.false)
