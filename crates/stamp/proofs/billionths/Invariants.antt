use Rattle.std.proofs.Common.{◌≡◌, ◌+◌, ◌-◌, ◌*◌, ◌<◌, ◌≤◌, length, drop}
use Rattle.stamp.specs.Reading.{worth_in}
use Rattle.stamp.proofs.billionths.Given as goal

abbrev pub invariant-loop-digit : goal.invariant-loop-digit
invariant-loop-digit l = record {
  same : l.value + worth_in l.unit (drop l.place l.text) ≡ worth_in 100_000_000 (drop l.at l.text);
  bound : l.value < 1_000_000_000;
  room : l.value + l.unit * 10 ≤ 1_000_000_000;
}

abbrev pub decreases-loop-digit : goal.decreases-loop-digit
decreases-loop-digit l = length l.text - l.place
