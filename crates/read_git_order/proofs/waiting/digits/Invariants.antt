use Rattle.std.proofs.Common.{◌-◌, length}
use Rattle.read_git_order.proofs.Steps.{HasCounted}
use Rattle.read_git_order.proofs.waiting.digits.Given as goal

abbrev pub invariant-digits : goal.invariant-digits
invariant-digits l = HasCounted l.bytes l.count

abbrev pub decreases-digits : goal.decreases-digits
decreases-digits l = length l.bytes - l.count
