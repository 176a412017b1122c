use Rattle.outside.specs.Calls.{untouched_both}
use Rattle.apply_task.proofs.placed.set_manner.Goals as goal

pub returns-in-Some-clause-untouched : goal.returns-in-Some-clause-untouched
returns-in-Some-clause-untouched g c = untouched_both c.in_ok-set_mode.ensures.untouched c.set_time.ensures.untouched
