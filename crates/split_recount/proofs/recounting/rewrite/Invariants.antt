use Rattle.std.proofs.Common.{◌-◌, length}
use Rattle.split_recount.proofs.Walking.{Rewrites}
use Rattle.split_recount.proofs.recounting.rewrite.Given as goal

abbrev pub invariant-lines : goal.invariant-lines
invariant-lines l = Rewrites l.text l.out.items l.reached

abbrev pub decreases-lines : goal.decreases-lines
decreases-lines l = length l.text - l.reached.at
