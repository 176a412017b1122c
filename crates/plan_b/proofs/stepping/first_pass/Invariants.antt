use Rattle.std.proofs.Common.{◌≤◌, ◌<◌, ◌-◌}
use Rattle.plan_b.specs.Spots.{Follows, Misses}
use Rattle.plan_b.proofs.stepping.first_pass.Given as goal

abbrev pub invariant-loop-layout : goal.invariant-loop-layout
invariant-loop-layout l = record {
  follows : Follows l.page l.layout l.k l.now l.at;
  order : l.k ≤ l.now;
  before : l.now < l.to;
  misses : Misses l.page l.layout l.line l.k l.now;
}

abbrev pub decreases-loop-layout : goal.decreases-loop-layout
decreases-loop-layout l = l.to - l.now
