use Rattle.std.proofs.Common.{inr, refl, ap}
use Rattle.std.specs.Prelude.{is_none}
use Rattle.series_stack.proofs.series.add_name.Goals as goal

pub returns-in-Err-Refused-clause-cause : goal.returns-in-Err-Refused-clause-cause
returns-in-Err-Refused-clause-cause c =
    let broken = (c.in-Err-Refused.ensures.refused c.in-Err-Refused.field-0-0).0 (rw (← c.in-Err-Refused.field-0-is) refl) in
    inr (refl, inr (ap is_none broken))
