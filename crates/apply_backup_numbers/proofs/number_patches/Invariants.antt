use Rattle.outside.specs.Calls.{IsUntouched}
use Rattle.apply_backup_numbers.specs.Renumbered.{IsRetargeted}
use Rattle.apply_backup_numbers.proofs.Each.{AreWalked}
use Rattle.apply_backup_numbers.proofs.number_patches.Given as goal

abbrev pub invariant-loop-patch : goal.invariant-loop-patch
invariant-loop-patch g l = record {
  untouched : IsUntouched (g.T.Tree.view l.fn.tree) (g.T.Tree.view l.tree);
  walked : AreWalked (IsRetargeted l.numbers (g.T.Tree.view l.fn.tree).told) l.patch-index l.fn.patches l.patches;
}
