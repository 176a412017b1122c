use Rattle.std.proofs.Common.{true}
use Rattle.name_choice.specs.Choice.{new_directories, names_of}
use Rattle.name_choice.proofs.Walked.{IsWalked}
use Rattle.name_choice.proofs.search.best_new.Given as goal

abbrev pub invariant-loop-place : goal.invariant-loop-place
invariant-loop-place g l = IsWalked (g.T.Tree.view l.fn.tree) (g.T.Tree.view l.tree) (λ files name. true) new_directories (names_of l.targets) l.place l.best
