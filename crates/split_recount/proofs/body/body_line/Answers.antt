use Rattle.std.proofs.Common.{sym}
use Rattle.split_recount.proofs.Bounds.{low-end}
use Rattle.split_recount.proofs.Ends.{body_none, body_ends, body_more}
use Rattle.split_recount.proofs.body.body_line.Goals as goal

pub is_end-requires-clause-low : goal.is_end-requires-clause-low
is_end-requires-clause-low c = low-end c.in_ok-end.ensures

pub is_end-requires-clause-high : goal.is_end-requires-clause-high
is_end-requires-clause-high c = c.in_ok-end.ensures.high

pub returns-in_err-end : goal.returns-in_err-end
returns-in_err-end c = rw c.from_residual.ensures (body_none _ c.in_err-end.ensures.1)

pub returns-then-is_end : goal.returns-then-is_end
returns-then-is_end c = body_ends _ _ _ c.in_ok-end.ensures.first (sym c.if-is_end.ensures)

pub returns : goal.returns
returns c = (c.in_ok-end.ensures, body_more _ _ _ c.in_ok-end.ensures.first (sym c.if-is_end.ensures))
