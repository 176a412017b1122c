use Rattle.std.proofs.Common.{◌-◌, length}
use Rattle.split_recount.proofs.Measuring.{Measures}
use Rattle.split_recount.proofs.body.measure.Given as goal

abbrev pub invariant-lines : goal.invariant-lines
invariant-lines l = Measures l.text l.at l.body

abbrev pub decreases-lines : goal.decreases-lines
decreases-lines l = length l.text - l.body.end
