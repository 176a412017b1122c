use Rattle.name_choice.specs.Choice.{is_there, names_of}
use Rattle.name_choice.proofs.Walked.{IsWalked}
use Rattle.name_choice.proofs.search.best_existing.Given as goal

abbrev pub invariant-loop-place : goal.invariant-loop-place
invariant-loop-place g l = IsWalked (g.T.Tree.view l.fn.tree) (g.T.Tree.view l.tree) is_there (λ files name. 0) (names_of l.targets) l.place l.best
