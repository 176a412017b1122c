use Rattle.name_choice.specs.Choice.{names_of}
use Rattle.name_choice.proofs.First.{IsSought}
use Rattle.name_choice.proofs.search.first_existing.Given as goal

abbrev pub invariant-loop-place : goal.invariant-loop-place
invariant-loop-place g l = IsSought (g.T.Tree.view l.fn.tree) (g.T.Tree.view l.tree) (names_of l.targets) l.place
