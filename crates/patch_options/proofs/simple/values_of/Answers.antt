use Rattle.std.proofs.Common.{◌∙◌}
use Rattle.clap.specs.Words.{found_of}
use Rattle.clap.proofs.WalkLemmas.{raw_values-rows}
use Rattle.patch_options.specs.Simple.{values_of}
use Rattle.patch_options.proofs.simple.values_of.Goals as goal

pub returns : goal.returns
unfolding values_of
returns c = c.get_strs.ensures ∙ raw_values-rows (found_of c.args.matches.now) c.args.name.now
