use Rattle.read_git_order.specs.Waiting.{waits}
use Rattle.read_git_order.proofs.Steps.{IsLed}
use Rattle.read_git_order.proofs.batches.next_of.Given as goal

abbrev pub invariant-steps : goal.invariant-steps
invariant-steps l = IsLed (waits l.text l.reverse l.pieces l.batch) l.left l.place l.most

abbrev pub decreases-steps : goal.decreases-steps
decreases-steps l = l.most
