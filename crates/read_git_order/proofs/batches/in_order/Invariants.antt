use Rattle.std.proofs.Common.{◌-◌, length}
use Rattle.read_git_order.proofs.Steps.{HasCut}
use Rattle.read_git_order.proofs.batches.in_order.Given as goal

abbrev pub invariant-pieces : goal.invariant-pieces
invariant-pieces l = HasCut l.text l.reverse l.pieces l.order.items l.batch.items l.k

abbrev pub decreases-pieces : goal.decreases-pieces
decreases-pieces l = length l.pieces - l.k
