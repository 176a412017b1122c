use Rattle.std.proofs.Common.{◌≤◌, ◌+◌, ◌-◌}
use Rattle.plan_b.specs.Spots.{Follows, Misses}
use Rattle.plan_b.proofs.stepping.last_pass.Given as goal

abbrev pub invariant-loop-layout : goal.invariant-loop-layout
invariant-loop-layout l = record {
  follows : Follows l.page l.layout l.k l.now l.at;
  order : l.now ≤ l.k;
  low : l.from ≤ l.now;
  misses : Misses l.page l.layout l.line (l.now + 1) (l.k + 1);
}

abbrev pub decreases-loop-layout : goal.decreases-loop-layout
decreases-loop-layout l = l.now - l.from
