use Rattle.std.proofs.Common.{sym, arith, length, length-take, ◌-◌}
use Rattle.patch_header.proofs.Pieces.{ended-some}
use Rattle.patch_header.proofs.content.content.Goals as goal

pub slice_bounds-result-count : goal.slice_bounds-result-count
slice_bounds-result-count c = ended-some c.args.line.now (sym c.if-has_feed.ensures)

pub slice_bounds-result-length : goal.slice_bounds-result-length
slice_bounds-result-length c = omega (arith, length-take (length c.args.line.now - 1) c.args.line.now)
