use Rattle.std.proofs.Common.{◌≡◌, ◌≤◌, ◌-◌, length, drop}
use Rattle.glob_match.specs.Pattern.{elements}
use Rattle.glob_match.specs.Walking.{walked}
use Rattle.glob_match.proofs.walk.Given as goal

abbrev pub invariant-loop-at : goal.invariant-loop-at
invariant-loop-at l = record {
  low : l.start ≤ l.at;
  high : l.at ≤ length l.pattern;
  begun : l.from ≤ l.place;
  within : l.place ≤ length l.name;
  same : walked (elements (drop l.at l.pattern)) (drop l.place l.name) ≡ walked (elements (drop l.start l.pattern)) (drop l.from l.name);
}

abbrev pub decreases-loop-at : goal.decreases-loop-at
decreases-loop-at l = length l.pattern - l.at
