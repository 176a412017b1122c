use Rattle.name_choice.proofs.Counted.{IsCounted}
use Rattle.name_choice.proofs.search.new_directories.Given as goal

abbrev pub invariant-loop-parts : goal.invariant-loop-parts
invariant-loop-parts g l = IsCounted (g.T.Tree.view l.fn.tree) (g.T.Tree.view l.tree) l.name l.parts-end l.parts l.count
