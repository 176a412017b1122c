use Rattle.std.proofs.Common.{[], ◌∙◌}
use Rattle.patch_set.proofs.Named.{rows-counted}
use Rattle.apply_outcome.proofs.past.row_count.Goals as goal

pub returns : goal.returns
returns c = c.hunks.ensures [] ∙ rows-counted [] c.args.patch.now.change
