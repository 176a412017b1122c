use Rattle.std.proofs.Common.{◌-◌, length}
use Rattle.read_git_order.proofs.Steps.{HasLaid}
use Rattle.read_git_order.proofs.laying.laid.Given as goal

abbrev pub invariant-places : goal.invariant-places
invariant-places l = HasLaid l.text l.pieces l.order l.out.items l.at

abbrev pub decreases-places : goal.decreases-places
decreases-places l = length l.order - l.at
