use Rattle.std.proofs.Common.{refl}
use Rattle.patch_options.specs.Table.{uses, value_of}
use Rattle.cli_gen.proofs.options.options_for.Goals as goal

pub returns-clause-options : goal.returns-clause-options
unfolding uses value_of
returns-clause-options c = refl
