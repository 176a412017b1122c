use Rattle.outside.specs.Calls.{untouched_both}
use Rattle.cli_run_answers.proofs.file.read_file.Goals as goal

pub returns-clause-untouched : goal.returns-clause-untouched
returns-clause-untouched g c = untouched_both c.size.ensures.untouched c.read_whole.ensures.untouched
