use Rattle.patch_options.specs.Simple.{rows_in}
use Rattle.patch_options.proofs.Refusing.{names_refused}
use Rattle.patch_options.proofs.table.read_options.Goals as goal

pub returns-in-Err-clause-refused : goal.returns-in-Err-clause-refused
returns-in-Err-clause-refused c = names_refused (rows_in c.args.matches.now) c.in-Err.fault c.in-Err.ensures.refused

pub returns-in-Ok-clause-options : goal.returns-in-Ok-clause-options
returns-in-Ok-clause-options c = c.options_of.ensures
