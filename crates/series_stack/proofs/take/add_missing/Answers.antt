use Rattle.series_stack.proofs.Taking.{missing-added}
use Rattle.std.proofs.Common.{◌∙◌}
use Rattle.series_stack.proofs.take.add_missing.Goals as goal

pub returns : goal.returns
returns c = missing-added c.args.text.now.items c.args.name.now _ _ _ _ c.in_ok-extend_from_slice.ensures.items (c.as_bytes.ensures.value ∙ c.text.ensures.text) c.in_ok-extend_from_slice-2.ensures.items c.in_ok-extend_from_slice-3.ensures.items
