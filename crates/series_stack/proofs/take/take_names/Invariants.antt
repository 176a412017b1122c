use Rattle.std.proofs.Common.{take}
use Rattle.series_stack.proofs.Taking.{HasTaken}
use Rattle.series_stack.proofs.take.take_names.Given as goal

-- the entries of the names so far
abbrev pub invariant-loop-name : goal.invariant-loop-name
invariant-loop-name g l = HasTaken (g.T.Tree.view l.fn.tree) (g.T.Tree.view l.tree) (take l.name-index l.names) l.text.items
