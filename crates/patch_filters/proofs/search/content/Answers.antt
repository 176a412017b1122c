use Rattle.std.proofs.Common.{◌-◌, length, arith, length-take}
use Rattle.patch_filters.proofs.Refusals.{fed-some}
use Rattle.patch_filters.proofs.search.content.Goals as goal

pub slice_bounds-result-count : goal.slice_bounds-result-count
slice_bounds-result-count c = fed-some c.args.line.now c.if-has_feed.ensures

pub slice_bounds-result-length : goal.slice_bounds-result-length
slice_bounds-result-length c = omega (arith, length-take (length c.args.line.now - 1) c.args.line.now)
