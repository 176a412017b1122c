use Rattle.std.proofs.Common.{◌<◌, ◌-◌}
use Rattle.packed_pages.specs.Steps.{Follows, Misses}
use Rattle.packed_pages.proofs.stepping.first_pass.Given as goal

abbrev pub invariant-loop-now : goal.invariant-loop-now
invariant-loop-now l = record {
  follows : Follows l.page l.fn.start l.now;
  before : l.now.line < l.end;
  misses : Misses l.page l.fn.start.first l.line l.fn.start.line l.now.line;
}

abbrev pub decreases-loop-now : goal.decreases-loop-now
decreases-loop-now l = l.end - l.now.line
