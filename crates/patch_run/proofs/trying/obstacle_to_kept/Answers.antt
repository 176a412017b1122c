use Rattle.outside.specs.Calls.{untouched_both}
use Rattle.patch_run.proofs.trying.obstacle_to_kept.Goals as goal

pub returns-in-Ok-None-clause-untouched : goal.returns-in-Ok-None-clause-untouched
returns-in-Ok-None-clause-untouched g c = untouched_both c.obstacle_to_backup.ensures.untouched c.obstacle_to_moved.ensures.untouched
