use Rattle.std.proofs.Common.{Option, get_or, ap, subst, arith}
use Rattle.outside.specs.Calls.{untouched_both}
use Rattle.outside.specs.Files.{Files}
use Rattle.apply_backup_numbers.specs.Renumbered.{IsNumbered}
use Rattle.apply_backup_numbers.proofs.Each.{walked-more}
use Rattle.apply_backup_numbers.proofs.number_targets.Goals as goal

pub loop-target-preserved : goal.loop-target-preserved
loop-target-preserved g c =
    let ys = c.loop-target.targets in
    let i = c.loop-target.target-index in
    let old = get_or ys i c.target-item.result in
    let new = c.number_target.new.target in
    record {
      untouched = untouched_both c.loop-target.invariant.untouched c.number_target.ensures.untouched;
      walked =
          walked-more (IsNumbered c.args.numbers (g.T.Tree.view c.args.tree.now).told) i c.args.targets.now ys old new (omega arith) (omega arith) (ap (λ x. get_or ys i x) c.target-item.is)
          (subst (λ (told : Option Files). IsNumbered c.args.numbers told old new) c.loop-target.invariant.untouched.told c.in_ok-number_target.ensures.numbered)
          c.loop-target.invariant.walked;
    }

pub returns-in_err-number_target-clause-untouched : goal.returns-in_err-number_target-clause-untouched
returns-in_err-number_target-clause-untouched g c = untouched_both c.loop-target.invariant.untouched c.number_target.ensures.untouched
