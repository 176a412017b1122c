use Rattle.outside.specs.Calls.{untouched_both}
use Rattle.apply_start.proofs.obstacles.obstacle_to_backup.Goals as goal

pub returns-in-Ok-clause-untouched : goal.returns-in-Ok-clause-untouched
returns-in-Ok-clause-untouched g c = untouched_both c.ask_if.ensures.untouched c.obstacle_at_backup.ensures.untouched
