use Rattle.std.proofs.Common.{◌∙◌, ap}
use Rattle.apply_start.specs.Fitting.{standing_by}
use Rattle.apply_start.proofs.fitting.standing_at.Goals as goal

pub returns-clause-standing : goal.returns-clause-standing
returns-clause-standing g c = λ f told. c.standing_by.ensures ∙ ap standing_by (c.in_ok-size.ensures.size f told)
