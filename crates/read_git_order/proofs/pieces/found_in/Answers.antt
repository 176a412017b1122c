use Rattle.read_git_order.proofs.Steps.{looked-all, looked-more, looked-none}
use Rattle.read_git_order.proofs.pieces.found_in.Goals as goal

pub lines-init : goal.lines-init
lines-init c = looked-none c.args.bytes.now

pub lines-preserved : goal.lines-preserved
lines-preserved c = looked-more c.args.bytes.now c.lines.found c.with_line-found.result c.lines.at c.in-Some.end c.lines.invariant c.in-Some.ensures c.with_line-found.ensures

pub returns : goal.returns
returns c = looked-all c.args.bytes.now c.lines.found c.lines.at c.lines.invariant c.in_default.ensures.1
