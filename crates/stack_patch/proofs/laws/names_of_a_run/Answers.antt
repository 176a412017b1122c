use Rattle.stack_patch.proofs.Written.{run_changes}
use Rattle.stack_patch.proofs.laws.names_of_a_run.Goals as goal

pub returns : goal.returns
returns c o output items files = run_changes o output items files
