use Rattle.std.proofs.Common.{arith}
use Rattle.outside.proofs.Exits.{if_ok_none}
use Rattle.context_form.proofs.hunks.read_parts.Goals as goal

pub read_old-requires : goal.read_old-requires
read_old-requires c = c.requires

pub returns-in_err-old-clause-place : goal.returns-in_err-old-clause-place
returns-in_err-old-clause-place c = if_ok_none _ _ c.from_residual.result c.from_residual.ensures.1

pub returns-in_err-old-clause-few : goal.returns-in_err-old-clause-few
returns-in_err-old-clause-few c = if_ok_none _ _ c.from_residual.result c.from_residual.ensures.1

pub returns-in_err-old-clause-old_lies : goal.returns-in_err-old-clause-old_lies
returns-in_err-old-clause-old_lies c = if_ok_none _ _ c.from_residual.result c.from_residual.ensures.1

pub returns-in_err-old-clause-new_lies : goal.returns-in_err-old-clause-new_lies
returns-in_err-old-clause-new_lies c = if_ok_none _ _ c.from_residual.result c.from_residual.ensures.1

pub returns-in_err-old-clause-old_fits : goal.returns-in_err-old-clause-old_fits
returns-in_err-old-clause-old_fits c = if_ok_none _ _ c.from_residual.result c.from_residual.ensures.1

pub returns-in_err-old-clause-new_fits : goal.returns-in_err-old-clause-new_fits
returns-in_err-old-clause-new_fits c = if_ok_none _ _ c.from_residual.result c.from_residual.ensures.1

pub read_new-requires : goal.read_new-requires
read_new-requires c = c.in_ok-old.ensures.place.0

pub returns-in_err-new-clause-place : goal.returns-in_err-new-clause-place
returns-in_err-new-clause-place c = if_ok_none _ _ c.from_residual-in_err-new.result c.from_residual-in_err-new.ensures.1

pub returns-in_err-new-clause-few : goal.returns-in_err-new-clause-few
returns-in_err-new-clause-few c = if_ok_none _ _ c.from_residual-in_err-new.result c.from_residual-in_err-new.ensures.1

pub returns-in_err-new-clause-old_lies : goal.returns-in_err-new-clause-old_lies
returns-in_err-new-clause-old_lies c = if_ok_none _ _ c.from_residual-in_err-new.result c.from_residual-in_err-new.ensures.1

pub returns-in_err-new-clause-new_lies : goal.returns-in_err-new-clause-new_lies
returns-in_err-new-clause-new_lies c = if_ok_none _ _ c.from_residual-in_err-new.result c.from_residual-in_err-new.ensures.1

pub returns-in_err-new-clause-old_fits : goal.returns-in_err-new-clause-old_fits
returns-in_err-new-clause-old_fits c = if_ok_none _ _ c.from_residual-in_err-new.result c.from_residual-in_err-new.ensures.1

pub returns-in_err-new-clause-new_fits : goal.returns-in_err-new-clause-new_fits
returns-in_err-new-clause-new_fits c = if_ok_none _ _ c.from_residual-in_err-new.result c.from_residual-in_err-new.ensures.1

pub returns-clause-place : goal.returns-clause-place
returns-clause-place c = (c.in_ok-new.ensures.place.0, omega (arith, c.in_ok-old.ensures.place.1, c.in_ok-new.ensures.place.1))

pub returns-clause-few : goal.returns-clause-few
returns-clause-few c = omega (arith, c.in_ok-old.ensures.few, c.in_ok-new.ensures.few)

pub returns-clause-old_lies : goal.returns-clause-old_lies
returns-clause-old_lies c = c.in_ok-old.ensures.lies

pub returns-clause-new_lies : goal.returns-clause-new_lies
returns-clause-new_lies c = c.in_ok-new.ensures.lies

pub returns-clause-old_fits : goal.returns-clause-old_fits
returns-clause-old_fits c = c.in_ok-old.ensures.fits

pub returns-clause-new_fits : goal.returns-clause-new_fits
returns-clause-new_fits c = c.in_ok-new.ensures.fits
