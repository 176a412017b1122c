use Rattle.std.proofs.Common.{◌-◌, length}
use Rattle.read_git_order.proofs.Steps.{HasLooked}
use Rattle.read_git_order.proofs.pieces.found_in.Given as goal

abbrev pub invariant-lines : goal.invariant-lines
invariant-lines l = HasLooked l.bytes l.found l.at

abbrev pub decreases-lines : goal.decreases-lines
decreases-lines l = length l.bytes - l.at
