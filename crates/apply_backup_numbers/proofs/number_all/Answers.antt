use Rattle.outside.specs.Calls.{untouched_both}
use Rattle.apply_backup_numbers.proofs.number_all.Goals as goal

pub returns-clause-untouched : goal.returns-clause-untouched
returns-clause-untouched g c = untouched_both c.number_patches.ensures.untouched c.number_output.ensures.untouched
