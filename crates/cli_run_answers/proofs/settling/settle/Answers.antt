use Rattle.cli_run_answers.proofs.Opens.{opens_settle}
use Rattle.std.proofs.Common.{refl}
use Rattle.cli_run_answers.proofs.settling.settle.Goals as goal

pub returns-in-Ok-clause-opens : goal.returns-in-Ok-clause-opens
returns-in-Ok-clause-opens g c = opens_settle _ c.in-Ok.ensures.call c.in-Ok.ensures.same c.in-Ok.ensures.crash

pub returns-in-Err-clause-opens : goal.returns-in-Err-clause-opens
returns-in-Err-clause-opens g c = opens_settle _ c.in-Err.ensures.call c.in-Err.ensures.same c.in-Err.ensures.crash

pub returns-in-Err-clause-cause : goal.returns-in-Err-clause-cause
returns-in-Err-clause-cause g c = (refl, c.in-Err.ensures.call.cause refl)
