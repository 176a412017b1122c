use Rattle.std.proofs.Common.{length, ◌-◌, ◌≡◌, ◌≤◌, drop}
use Rattle.context_form.specs.Ranges.{unblanked}
use Rattle.context_form.proofs.numbers.blanks_end.Given as goal

abbrev pub invariant-loop-end : goal.invariant-loop-end
invariant-loop-end l = record { high : l.end ≤ length l.bytes; same : unblanked (drop l.end l.bytes) ≡ unblanked l.bytes }

abbrev pub decreases-loop-end : goal.decreases-loop-end
decreases-loop-end l = length l.bytes - l.end
