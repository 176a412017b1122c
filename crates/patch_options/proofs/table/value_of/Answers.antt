use Rattle.std.proofs.Common.{◌∙◌}
use Rattle.clap.specs.Words.{found_of}
use Rattle.clap.proofs.WalkLemmas.{first_value-rows}
use Rattle.patch_options.specs.Table.{value_of}
use Rattle.patch_options.proofs.table.value_of.Goals as goal

pub returns : goal.returns
unfolding value_of
returns c = c.get_str.ensures ∙ first_value-rows (found_of c.args.matches.now) c.args.name.now
