use Rattle.std.proofs.Common.{refl}
use Rattle.patch_options.specs.PlainJob.{plain_options}
use Rattle.patch_run.proofs.Finishing.{finishes_whole, verdicts_whole, rows_whole}
use Rattle.patch_run.proofs.plans.apply_whole.Goals as goal

pub returns-clause-finishes : goal.returns-clause-finishes
returns-clause-finishes g c = finishes_whole (plain_options c.args.options.now) c.args.set.now _ _ c.apply_set.result c.apply_set.ensures.runs c.apply_set.ensures.receipt c.apply_set.ensures.cut c.apply_set.ensures.dry (record {
  told = refl;
  faults = refl;
  faults_after = refl;
  size = c.new-whole.ensures.size;
  plan = c.requires.plan;
})

pub returns-clause-verdicts : goal.returns-clause-verdicts
returns-clause-verdicts g c a = verdicts_whole a (plain_options c.args.options.now) c.args.set.now _ _ c.apply_set.result c.apply_set.ensures.runs c.apply_set.ensures.receipt refl

pub returns-clause-noted : goal.returns-clause-noted
returns-clause-noted g c a = rows_whole a (plain_options c.args.options.now) c.args.set.now _ _ c.apply_set.result c.apply_set.ensures.runs c.apply_set.ensures.receipt refl
