use Rattle.std.proofs.Common.{refl}
use Rattle.patch_options.specs.Table.{uses, value_of}
use Rattle.filter_whole_text.proofs.defaults.default_options.Goals as goal

pub returns-clause-options : goal.returns-clause-options
unfolding uses value_of
returns-clause-options c = refl
