use Rattle.std.proofs.Common.{length}
use Rattle.series_stack.proofs.Going.{Going}
use Rattle.series_stack.proofs.files.restore_all.Given as goal

-- the entries so far are restored
abbrev pub invariant-loop-rest : goal.invariant-loop-rest
invariant-loop-rest g l = Going (g.T.Tree.view l.fn.tree) (g.T.Tree.view l.tree) l.save l.rest

abbrev pub decreases-loop-rest : goal.decreases-loop-rest
decreases-loop-rest g l = length l.rest
