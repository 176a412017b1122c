use Rattle.std.proofs.Common.{◌++◌, length}
use Rattle.read_git_order.specs.Batches.{taken}
use Rattle.read_git_order.specs.Waiting.{waits}
use Rattle.read_git_order.proofs.Steps.{HasTaken}
use Rattle.read_git_order.proofs.batches.put_taken.Given as goal

abbrev pub invariant-left : goal.invariant-left
invariant-left l = HasTaken (waits l.text l.reverse l.pieces l.batch) (l.fn.order.items ++ taken (length l.batch) (waits l.text l.reverse l.pieces l.batch) l.batch) l.order.items l.left.items

abbrev pub decreases-left : goal.decreases-left
decreases-left l = length l.left.items
