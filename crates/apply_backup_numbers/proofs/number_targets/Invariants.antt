use Rattle.outside.specs.Calls.{IsUntouched}
use Rattle.apply_backup_numbers.specs.Renumbered.{IsNumbered}
use Rattle.apply_backup_numbers.proofs.Each.{AreWalked}
use Rattle.apply_backup_numbers.proofs.number_targets.Given as goal

abbrev pub invariant-loop-target : goal.invariant-loop-target
invariant-loop-target g l = record {
  untouched : IsUntouched (g.T.Tree.view l.fn.tree) (g.T.Tree.view l.tree);
  walked : AreWalked (IsNumbered l.numbers (g.T.Tree.view l.fn.tree).told) l.target-index l.fn.targets l.targets;
}
