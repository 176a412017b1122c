use Rattle.std.proofs.Common.{◌≡◌, ◌-◌, ◌≤◌, drop, length}
use Rattle.normal_form.specs.Canonical.{drops_come_first}
use Rattle.normal_form.proofs.writing.is_in_order.Given as goal

abbrev pub invariant-loop-i : goal.invariant-loop-i
invariant-loop-i l = record { within : l.i ≤ length l.hunk.body.items; same : drops_come_first (drop l.i l.hunk.body.items) ≡ drops_come_first l.hunk.body.items }

abbrev pub decreases-loop-i : goal.decreases-loop-i
decreases-loop-i l = length l.hunk.body.items - l.i
