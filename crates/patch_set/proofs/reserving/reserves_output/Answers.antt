use Rattle.patch_options.specs.PlainJob.{plain_options}
use Rattle.patch_set.proofs.Refusing.{output-named}
use Rattle.patch_set.proofs.reserving.reserves_output.Goals as goal

pub returns-in-Some : goal.returns-in-Some
returns-in-Some c = output-named (plain_options c.args.options.now) c.in-Some.name c.is_reserving.result c.in-Some.is c.is_reserving.ensures
