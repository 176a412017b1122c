use Rattle.std.proofs.Common.{sym, ◌∙◌}
use Rattle.cli_filter.proofs.ByText.{filtered-by, digested-by}
use Rattle.cli_filter.proofs.sifting.digests_are_filtered_as_sets.Goals as goal

pub returns : goal.returns
returns c j text v d read also = digested-by j text d also ∙ sym (filtered-by j text v read)
