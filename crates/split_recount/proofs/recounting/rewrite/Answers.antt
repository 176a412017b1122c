use Rattle.std.proofs.Common.{arith}
use Rattle.split_recount.proofs.Walking.{rewrites_begin, rewrites_more, rewrites_fail, rewrites_done}
use Rattle.split_recount.proofs.recounting.rewrite.Goals as goal

pub lines-init : goal.lines-init
lines-init c = rw c.in_ok-out.ensures.items (rewrites_begin c.args.text.now)

pub lines-preserved : goal.lines-preserved
lines-preserved c = rewrites_more c.args.text.now c.lines.out.items c.take_next.new.out.items c.lines.reached c.in-Ok.next c.lines.invariant c.in-Ok.ensures

pub lines-smaller : goal.lines-smaller
lines-smaller c = omega (arith, c.in-Ok.ensures.1, c.in-Ok.ensures.0.within)

pub returns-in-Err : goal.returns-in-Err
returns-in-Err c = rewrites_fail c.args.text.now c.lines.out.items c.take_next.new.out.items c.lines.reached c.in-Err.fault c.lines.invariant c.in-Err.ensures

pub returns : goal.returns
returns c = rewrites_done c.args.text.now c.lines.out.items c.lines.reached c.lines.invariant c.in_default.ensures.1

pub next_line-requires : goal.next_line-requires
next_line-requires c = c.lines.invariant.is.within

pub take_next-requires-clause-short : goal.take_next-requires-clause-short
take_next-requires-clause-short c = c.requires

pub take_next-requires-clause-reached : goal.take_next-requires-clause-reached
take_next-requires-clause-reached c = c.lines.invariant.is

pub take_next-requires-clause-line : goal.take_next-requires-clause-line
take_next-requires-clause-line c = c.in-Some.ensures
