use Rattle.std.proofs.Common.{Option, get_or, ap, subst, arith}
use Rattle.outside.specs.Calls.{untouched_both}
use Rattle.outside.specs.Files.{Files}
use Rattle.apply_backup_numbers.specs.Renumbered.{IsRetargeted}
use Rattle.apply_backup_numbers.proofs.Each.{walked-more}
use Rattle.apply_backup_numbers.proofs.number_patches.Goals as goal

pub loop-patch-preserved : goal.loop-patch-preserved
loop-patch-preserved g c =
    let ys = c.loop-patch.patches in
    let i = c.loop-patch.patch-index in
    let old = get_or ys i c.patch-item.result in
    let new = c.number_patch.new.patch in
    record {
      untouched = untouched_both c.loop-patch.invariant.untouched c.number_patch.ensures.untouched;
      walked =
          walked-more (IsRetargeted c.args.numbers (g.T.Tree.view c.args.tree.now).told) i c.args.patches.now ys old new (omega arith) (omega arith) (ap (λ x. get_or ys i x) c.patch-item.is)
          (subst (λ (told : Option Files). IsRetargeted c.args.numbers told old new) c.loop-patch.invariant.untouched.told c.in_ok-number_patch.ensures.retargeted)
          c.loop-patch.invariant.walked;
    }

pub returns-in_err-number_patch-clause-untouched : goal.returns-in_err-number_patch-clause-untouched
returns-in_err-number_patch-clause-untouched g c = untouched_both c.loop-patch.invariant.untouched c.number_patch.ensures.untouched
