use Rattle.std.proofs.Common.{◌*◌, ◌<◌, ◌++◌, take, Some, sym, ap, ◌∙◌, arith, refl}
use Rattle.line_store.specs.declared.Half.TheVariants.{Second}
use Rattle.page_pair.specs.Pair.{page_of}
use Rattle.page_pair.specs.Records.{padded}
use Rattle.plan_b.proofs.Fillings.{page-flushed}
use Rattle.plan_b.proofs.Copyings.{pages-more, pages-all}
use Rattle.outside.specs.ScratchView.{scratch_passes_none}
use Rattle.plan_b.proofs.Layouts.{rows-fit, pages-few, pages-fit}
use Rattle.plan_b.proofs.copying.finish.Goals as goal

pub returns-then-filling-eq0-clause-pages : goal.returns-then-filling-eq0-clause-pages
returns-then-filling-eq0-clause-pages g c ls was b told =
    was.front b told ∙ pages-all c.args.layout ls c.args.filling.pages c.args.filling.records c.requires.layout was.counted c.requires.ready.some c.if-filling-eq0.true

pub returns-in-Ok-clause-pages : goal.returns-in-Ok-clause-pages
returns-in-Ok-clause-pages g c ls was b told =
    let view = g.C.Scratch.view in
    page-flushed c.args.layout (view c.args.scratch.now).told (view c.write_page.new.scratch).told (page_of c.args.pair.now Second) c.args.filling ls (let lt : c.args.filling.records < c.args.layout.per_page = c.requires.ready.some in omega arith) c.write_page.ensures.passes.telling
    (λ x is. c.in-Ok.ensures.written x is ∙ ap (λ n. Some (x ++ padded n (take (c.args.filling.records * c.args.layout.width) (page_of c.args.pair.now Second)))) (sym c.requires.size))
    was b told
    ∙ pages-more c.args.layout ls c.args.filling.pages c.args.filling.records c.requires.layout was.counted c.requires.ready.some (omega arith)

pub returns-then-got-layout-clause-size : goal.returns-then-got-layout-clause-size
returns-then-got-layout-clause-size g c = refl

pub returns-then-got-layout-clause-passes : goal.returns-then-got-layout-clause-passes
returns-then-got-layout-clause-passes g c = scratch_passes_none _

pub returns-then-got-layout-clause-count : goal.returns-then-got-layout-clause-count
returns-then-got-layout-clause-count g c = tt

pub returns-then-got-layout-clause-pages : goal.returns-then-got-layout-clause-pages
returns-then-got-layout-clause-pages g c = tt

pub returns-then-filling-eq0-clause-size : goal.returns-then-filling-eq0-clause-size
returns-then-filling-eq0-clause-size g c = refl

pub returns-then-filling-eq0-clause-passes : goal.returns-then-filling-eq0-clause-passes
returns-then-filling-eq0-clause-passes g c = scratch_passes_none _

pub returns-then-filling-eq0-clause-cause : goal.returns-then-filling-eq0-clause-cause
returns-then-filling-eq0-clause-cause g c = tt

pub returns-in-Ok-clause-size : goal.returns-in-Ok-clause-size
returns-in-Ok-clause-size g c = c.write_page.ensures.size

pub returns-in-Ok-clause-passes : goal.returns-in-Ok-clause-passes
returns-in-Ok-clause-passes g c = c.write_page.ensures.passes

pub returns-in-Ok-clause-cause : goal.returns-in-Ok-clause-cause
returns-in-Ok-clause-cause g c = tt

pub returns-in-Err-clause-size : goal.returns-in-Err-clause-size
returns-in-Err-clause-size g c = c.write_page.ensures.size

pub returns-in-Err-clause-passes : goal.returns-in-Err-clause-passes
returns-in-Err-clause-passes g c = c.write_page.ensures.passes

pub returns-in-Err-clause-count : goal.returns-in-Err-clause-count
returns-in-Err-clause-count g c = tt

pub returns-in-Err-clause-pages : goal.returns-in-Err-clause-pages
returns-in-Err-clause-pages g c = tt

pub overflow_mul-filling : goal.overflow_mul-filling
overflow_mul-filling g c =
    let few = pages-few c.args.layout c.args.filling.pages c.args.filling.records c.requires.layout c.requires.ready.few in
    omega (arith, pages-fit c.args.layout c.args.filling.pages c.requires.layout few)

pub write_page-requires-clause-filled : goal.write_page-requires-clause-filled
write_page-requires-clause-filled g c = omega (arith, rows-fit c.args.layout c.args.filling.records c.requires.layout (omega (arith, c.requires.ready.some)), c.requires.size)

pub write_page-requires-clause-behind : goal.write_page-requires-clause-behind
write_page-requires-clause-behind g c = c.requires.ready.behind

pub overflow_mul-filled : goal.overflow_mul-filled
overflow_mul-filled g c = omega (arith, rows-fit c.args.layout c.args.filling.records c.requires.layout (omega (arith, c.requires.ready.some)), c.requires.layout.sized.1)
