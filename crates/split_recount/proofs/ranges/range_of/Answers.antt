use Rattle.std.proofs.Common.{Some, sym, ap, ◌∙◌}
use Rattle.split_recount.proofs.Alike.{counted, ranges_alike}
use Rattle.split_recount.proofs.ranges.range_of.Goals as goal

pub returns-in_err-range : goal.returns-in_err-range
returns-in_err-range c = rw c.from_residual.ensures (ranges_alike c.args.bytes.now ∙ ap counted c.in_err-range.ensures.exact)

pub returns : goal.returns
returns c = ranges_alike c.args.bytes.now ∙ ap counted c.in_ok-range.ensures.exact ∙ ap (λ n. Some ((c.in_ok-range.range.first, n), c.in_ok-range.rest.now)) (sym c.count_of.ensures)
