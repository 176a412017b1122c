use Rattle.std.proofs.Common.{◌<◌, ◌-◌, ◌+◌}
use Rattle.packed_pages.specs.Steps.{Follows, IfLast}
use Rattle.packed_pages.proofs.stepping.last_pass.Given as goal

abbrev pub invariant-loop-now : goal.invariant-loop-now
invariant-loop-now l = record {
  follows : Follows l.page l.fn.start l.now;
  before : l.now.line < l.end;
  last : IfLast l.page l.fn.start l.line (l.now.line + 1) l.alike;
}

abbrev pub decreases-loop-now : goal.decreases-loop-now
decreases-loop-now l = l.end - l.now.line
