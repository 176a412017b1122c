use Rattle.std.proofs.Common.{◌∙◌, ap}
use Rattle.patch_filters.specs.Filtered.{region}
use Rattle.patch_filters.proofs.row_parts.front.Goals as goal

pub region-requires : goal.region-requires
region-requires c = rw c.text.ensures c.requires.is.placed

pub returns : goal.returns
returns c = c.region.ensures ∙ ap (λ t. region t c.args.row.now.row.now) c.text.ensures
