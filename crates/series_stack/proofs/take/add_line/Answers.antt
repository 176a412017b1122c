use Rattle.series_stack.proofs.Taking.{line-added}
use Rattle.std.proofs.Common.{◌∙◌}
use Rattle.series_stack.proofs.take.add_line.Goals as goal

pub returns : goal.returns
returns c = line-added c.args.text.now.items c.args.name.now _ _ _ (c.as_bytes.ensures.value ∙ c.text.ensures.text) c.in_ok-extend_from_slice.ensures.items c.in_ok-extend_from_slice-2.ensures.items
