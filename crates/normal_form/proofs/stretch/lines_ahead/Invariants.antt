use Rattle.std.proofs.Common.{◌+◌, ◌-◌, ◌≤◌, length}
use Rattle.normal_form.proofs.stretch.lines_ahead.Given as goal

abbrev pub invariant-ahead : goal.invariant-ahead
invariant-ahead l = record { within : l.at ≤ length l.text; few : l.count + l.fn.at ≤ l.at }

abbrev pub decreases-ahead : goal.decreases-ahead
decreases-ahead l = length l.text - l.at
