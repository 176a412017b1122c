use Rattle.outside.specs.Calls.{untouched_both}
use Rattle.apply_start.proofs.obstacles.obstacle_to_backups.Goals as goal

pub returns-in-Ok-None-clause-untouched : goal.returns-in-Ok-None-clause-untouched
returns-in-Ok-None-clause-untouched g c = untouched_both c.obstacle_to_backup.ensures.untouched c.obstacle_to_source_backup.ensures.untouched
