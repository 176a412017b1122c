use Rattle.std.proofs.Common.{sym, ◌∙◌}
use Rattle.ed_form.proofs.CommandReading.{no-range, no-action, goes-on, ends-so}
use Rattle.ed_form.proofs.command.command_at.Goals as goal

pub returns-in_err-range-clause-exact : goal.returns-in_err-range-clause-exact
returns-in_err-range-clause-exact c = c.from_residual.ensures ∙ sym (no-range c.args.line.now c.in_err-range.ensures.exact)

pub returns-in_err-range-clause-small : goal.returns-in_err-range-clause-small
returns-in_err-range-clause-small c = rw c.from_residual.ensures tt

pub returns-in_err-action-clause-exact : goal.returns-in_err-action-clause-exact
returns-in_err-action-clause-exact c = c.from_residual-in_err-action.ensures ∙ sym (no-action c.args.line.now c.in_ok-range.range c.in_ok-range.rest.now c.in_ok-range.ensures.exact c.in_err-action.ensures)

pub returns-in_err-action-clause-small : goal.returns-in_err-action-clause-small
returns-in_err-action-clause-small c = rw c.from_residual-in_err-action.ensures tt

pub returns-then-ends_here-clause-exact : goal.returns-then-ends_here-clause-exact
returns-then-ends_here-clause-exact c = ends-so c.args.line.now c.in_ok-range.range c.in_ok-range.rest.now c.in_ok-range.ensures.exact c.in_ok-action.action c.in_ok-action.rest.now c.in_ok-action.ensures c.if-ends_here.ensures

pub returns-then-ends_here-clause-small : goal.returns-then-ends_here-clause-small
returns-then-ends_here-clause-small c = c.in_ok-range.ensures.small

pub returns-else-ends_here-clause-exact : goal.returns-else-ends_here-clause-exact
returns-else-ends_here-clause-exact c = goes-on c.args.line.now c.in_ok-range.range c.in_ok-range.rest.now c.in_ok-range.ensures.exact c.in_ok-action.action c.in_ok-action.rest.now c.in_ok-action.ensures c.if-ends_here.ensures

pub returns-else-ends_here-clause-small : goal.returns-else-ends_here-clause-small
returns-else-ends_here-clause-small c = tt
