use Rattle.std.proofs.Common.{◌≡◌, true, false, sym, ap, ◌∙◌}
use Rattle.outside.specs.ScratchView.{ScratchView}
use Rattle.line_store.specs.Store.{Seen}
use Rattle.plan_a.specs.Auto.{page_size}
use Rattle.packed_pages.specs.declared.PackedB.{PackedB}
use Rattle.patch_options.specs.PlainJob.{plain_options}
use Rattle.patch_run.specs.Scratches.{has_scratch, is_paged}
use Rattle.patch_run.proofs.Finishing.{finishes_paged, finishes_without_pages, verdicts_paged, rows_paged, keeps_auto}
use Rattle.patch_run.proofs.plans.apply_by_size.Goals as goal

pub returns-clause-finishes : goal.returns-clause-finishes
returns-clause-finishes g c =
    let given = g.C.Scratch.view c.new-2.result.scratch in
    let same = ap g.C.Scratch.view (◌∙◌ {b = c.into_big.result.scratch} c.into_parts-pair.ensures.scratch (ap (λ (p : PackedB g.row.C.Denot g.C.Scratch). p.scratch) c.into_big.ensures)) in
    finishes_paged (plain_options c.args.options.now) c.args.set.now _ _ c.apply_set-applied.result c.apply_set-applied.ensures.runs c.apply_set-applied.ensures.receipt c.apply_set-applied.ensures.cut c.apply_set-applied.ensures.dry (record {
      told = ◌∙◌ {b = given.told} (ap (λ (s : Seen). s.scratch) c.new-either.ensures.seen) c.new-2.ensures.scratch;
      told_after = sym (ap (λ (s : ScratchView). s.told) same);
      faults = ◌∙◌ {b = given.faults} (ap (λ (s : Seen). s.faults) c.new-either.ensures.seen) c.new-2.ensures.faults;
      faults_after = sym (ap (λ (s : ScratchView). s.faults) same);
      size = ◌∙◌ {b = c.new-small.result.buffer} (ap (λ (s : Seen). s.size) c.new-either.ensures.seen) c.new-small.ensures.size;
      has = ap has_scratch c.requires.plan;
      memory = λ all. let not : false ≡ true = sym (ap is_paged c.requires.plan) ∙ all in absurd (cc);
      keeps = keeps_auto (plain_options c.args.options.now) c.requires.plan;
    })

pub returns-clause-verdicts : goal.returns-clause-verdicts
returns-clause-verdicts g c =
    let given = g.C.Scratch.view c.new-2.result.scratch in
    verdicts_paged (g.C.Scratch.view c.args.scratch) (plain_options c.args.options.now) c.args.set.now _ _ c.apply_set-applied.result c.apply_set-applied.ensures.runs c.apply_set-applied.ensures.receipt
    (◌∙◌ {b = given.told} (ap (λ (s : Seen). s.scratch) c.new-either.ensures.seen) c.new-2.ensures.scratch) (ap has_scratch c.requires.plan)

pub returns-in-Err-clause-finishes : goal.returns-in-Err-clause-finishes
returns-in-Err-clause-finishes g c = finishes_without_pages (plain_options c.args.options.now) c.args.set.now _ _ _ c.requires.quiet

pub returns-clause-noted : goal.returns-clause-noted
returns-clause-noted g c =
    let given = g.C.Scratch.view c.new-2.result.scratch in
    rows_paged (g.C.Scratch.view c.args.scratch) (plain_options c.args.options.now) c.args.set.now _ _ c.apply_set-applied.result c.apply_set-applied.ensures.runs c.apply_set-applied.ensures.receipt
    (◌∙◌ {b = given.told} (ap (λ (s : Seen). s.scratch) c.new-either.ensures.seen) c.new-2.ensures.scratch) (ap has_scratch c.requires.plan)

pub new-requires : goal.new-requires
new-requires g c = c.page_size.ensures.sized

pub new-either-requires-clause-sizes : goal.new-either-requires-clause-sizes
new-either-requires-clause-sizes g c = c.new-2.ensures.size ∙ c.in-Ok.ensures.size ∙ c.page_size.ensures.is ∙ ap page_size (sym c.new-small.ensures.size)
