use Rattle.ed_form.proofs.Bounds.{heading-fits}
use Rattle.ed_form.proofs.command.checked_command.Goals as goal

pub returns-then-is_bad-clause-fits : goal.returns-then-is_bad-clause-fits
returns-then-is_bad-clause-fits c = tt

pub returns-then-is_over-clause-fits : goal.returns-then-is_over-clause-fits
returns-then-is_over-clause-fits c = tt

pub returns-else-heading-below-clause-fits : goal.returns-else-heading-below-clause-fits
returns-else-heading-below-clause-fits c = tt

pub returns-then-heading-below-clause-fits : goal.returns-then-heading-below-clause-fits
returns-then-heading-below-clause-fits c = heading-fits c.heading_of-heading.result c.if-is_over.ensures
