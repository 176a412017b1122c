use Rattle.std.proofs.Common.{◌≤◌, sym, ap, subst, ◌∙◌}
use Rattle.outside.specs.ScratchView.{ScratchView}
use Rattle.patch_options.specs.Forms.{largest_buffer}
use Rattle.patch_options.specs.PlainJob.{plain_options}
use Rattle.patch_run.specs.Scratches.{has_scratch}
use Rattle.patch_run.proofs.Finishing.{finishes_paged, finishes_without_pages, verdicts_paged, rows_paged, keeps_packed}
use Rattle.patch_run.proofs.plans.apply_packed.Goals as goal

pub returns-clause-finishes : goal.returns-clause-finishes
returns-clause-finishes g c =
    let same = ap g.C.Scratch.view c.into_parts-pair.ensures.scratch in
    finishes_paged (plain_options c.args.options.now) c.args.set.now _ _ c.apply_set-applied.result c.apply_set-applied.ensures.runs c.apply_set-applied.ensures.receipt c.apply_set-applied.ensures.cut c.apply_set-applied.ensures.dry (record {
      told = c.new-packed.ensures.scratch;
      told_after = sym (ap (λ (s : ScratchView). s.told) same);
      faults = c.new-packed.ensures.faults;
      faults_after = sym (ap (λ (s : ScratchView). s.faults) same);
      size = c.new-packed.ensures.size ∙ c.in-Ok.ensures.size;
      has = ap has_scratch c.requires.plan;
      memory = λ all. c.new-packed.ensures.memory;
      keeps = keeps_packed (plain_options c.args.options.now) c.requires.plan;
    })

pub returns-clause-verdicts : goal.returns-clause-verdicts
returns-clause-verdicts g c = verdicts_paged (g.C.Scratch.view c.args.scratch) (plain_options c.args.options.now) c.args.set.now _ _ c.apply_set-applied.result c.apply_set-applied.ensures.runs c.apply_set-applied.ensures.receipt c.new-packed.ensures.scratch (ap has_scratch c.requires.plan)

pub returns-in-Err-clause-finishes : goal.returns-in-Err-clause-finishes
returns-in-Err-clause-finishes g c = finishes_without_pages (plain_options c.args.options.now) c.args.set.now _ _ _ c.requires.quiet

pub returns-clause-noted : goal.returns-clause-noted
returns-clause-noted g c = rows_paged (g.C.Scratch.view c.args.scratch) (plain_options c.args.options.now) c.args.set.now _ _ c.apply_set-applied.result c.apply_set-applied.ensures.runs c.apply_set-applied.ensures.receipt c.new-packed.ensures.scratch (ap has_scratch c.requires.plan)

pub new-requires : goal.new-requires
new-requires g c = (c.requires.can.lawful.least, subst (λ k. c.args.options.now.buffer ≤ largest_buffer k) c.requires.plan c.requires.can.lawful.most)
