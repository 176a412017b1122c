use Rattle.outside.specs.Calls.{untouched_both}
use Rattle.apply_start.proofs.obstacles.obstacle_of_kind.Goals as goal

pub returns-in-Ok-false-clause-untouched : goal.returns-in-Ok-false-clause-untouched
returns-in-Ok-false-clause-untouched g c = untouched_both c.ask_if.ensures.untouched c.obstacle_to_target.ensures.untouched
