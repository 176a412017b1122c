use Rattle.std.proofs.Common.{◌≡◌, ◌+◌, ◌*◌, ◌<◌, ℕ, List, ◌++◌, [], ◌∷◌, length, min, take, drop, Some, refl, sym, ap, ◌∙◌, arith}
use Rattle.std.proofs.lemmas.List.{length-take}
use Rattle.line_store.specs.declared.Half.TheVariants.{First, Second}
use Rattle.page_pair.specs.Pair.{page_of}
use Rattle.page_pair.specs.Records.{padded}
use Rattle.plan_b.proofs.Fillings.{filled-more, filled-full, ready-full}
use Rattle.plan_b.proofs.Layouts.{rows-fit, row-fits, pages-few, pages-fit}
use Rattle.outside.specs.ScratchView.{scratch_passes_none}
use Rattle.plan_b.proofs.filling.put_record.Goals as goal

pub returns-then-records-layout-clause-filled : goal.returns-then-records-layout-clause-filled
returns-then-records-layout-clause-filled g c ls was =
    let line : List ℕ = take c.args.count (drop c.args.from (page_of c.args.pair.now First)) in
    let short : length (take c.args.count (drop c.args.from (page_of c.args.pair.now First))) ≡ min c.args.count (length (drop c.args.from (page_of c.args.pair.now First))) = length-take c.args.count (drop c.args.from (page_of c.args.pair.now First)) in
    filled-more c.args.layout (g.C.Scratch.view c.args.scratch.now).told (page_of c.args.pair.now Second) (page_of c.make_record.new.pair Second) (take c.args.count (drop c.args.from (page_of c.args.pair.now First))) c.args.filling (record { pages = c.args.filling.pages; records = c.args.filling.records + 1 }) ls
    refl refl (omega arith) c.make_record.ensures.made was

pub returns-in-Ok-clause-ready : goal.returns-in-Ok-clause-ready
returns-in-Ok-clause-ready g c =
    let view = g.C.Scratch.view in
    let l = c.args.layout in
    let some : c.args.filling.records < l.per_page = c.requires.ready.some in
    let full : c.args.filling.records + 1 ≡ l.per_page = omega arith in
    let size : c.make_record.new.pair.size ≡ l.size = c.make_record.ensures.size ∙ sym c.requires.size in
    ready-full l (view c.args.scratch.now).told (view c.write_page.new.scratch).told (page_of c.make_record.new.pair Second) ((c.args.filling.records + 1) * l.width) c.args.filling (record { pages = c.args.filling.pages + 1; records = 0 })
    (rows-fit l (c.args.filling.records + 1) c.requires.layout (omega arith)) (omega arith) refl refl full c.requires.few c.write_page.ensures.passes.telling
    (λ b told. c.in-Ok.ensures.written b told ∙ ap (λ n. Some (b ++ padded n (take ((c.args.filling.records + 1) * l.width) (page_of c.make_record.new.pair Second)))) size)
    c.requires.ready

pub returns-in-Ok-clause-filled : goal.returns-in-Ok-clause-filled
returns-in-Ok-clause-filled g c ls was =
    let view = g.C.Scratch.view in
    let l = c.args.layout in
    let line : List ℕ = take c.args.count (drop c.args.from (page_of c.args.pair.now First)) in
    let some : c.args.filling.records < l.per_page = c.requires.ready.some in
    let full : c.args.filling.records + 1 ≡ l.per_page = omega arith in
    let size : c.make_record.new.pair.size ≡ l.size = c.make_record.ensures.size ∙ sym c.requires.size in
    let short : length (take c.args.count (drop c.args.from (page_of c.args.pair.now First))) ≡ min c.args.count (length (drop c.args.from (page_of c.args.pair.now First))) = length-take c.args.count (drop c.args.from (page_of c.args.pair.now First)) in
    filled-full l (view c.args.scratch.now).told (view c.write_page.new.scratch).told (page_of c.make_record.new.pair Second) (page_of c.write_page.new.pair Second) (record { pages = c.args.filling.pages; records = c.args.filling.records + 1 }) (record { pages = c.args.filling.pages + 1; records = 0 }) (ls ++ take c.args.count (drop c.args.from (page_of c.args.pair.now First)) ∷ [])
    full refl refl c.write_page.ensures.passes.telling
    (λ b told. c.in-Ok.ensures.written b told ∙ ap (λ n. Some (b ++ padded n (take ((c.args.filling.records + 1) * l.width) (page_of c.make_record.new.pair Second)))) size)
    (filled-more l (view c.args.scratch.now).told (page_of c.args.pair.now Second) (page_of c.make_record.new.pair Second) (take c.args.count (drop c.args.from (page_of c.args.pair.now First))) c.args.filling (record { pages = c.args.filling.pages; records = c.args.filling.records + 1 }) ls
    refl refl (omega arith) c.make_record.ensures.made was)

pub returns-then-records-layout-clause-size : goal.returns-then-records-layout-clause-size
returns-then-records-layout-clause-size g c = c.make_record.ensures.size

pub returns-then-records-layout-clause-first : goal.returns-then-records-layout-clause-first
returns-then-records-layout-clause-first g c = c.make_record.ensures.first

pub returns-then-records-layout-clause-passes : goal.returns-then-records-layout-clause-passes
returns-then-records-layout-clause-passes g c = scratch_passes_none _

pub returns-then-records-layout-clause-cause : goal.returns-then-records-layout-clause-cause
returns-then-records-layout-clause-cause g c = tt

pub returns-in-Ok-clause-size : goal.returns-in-Ok-clause-size
returns-in-Ok-clause-size g c = c.write_page.ensures.size ∙ c.make_record.ensures.size

pub returns-in-Ok-clause-first : goal.returns-in-Ok-clause-first
returns-in-Ok-clause-first g c = c.write_page.ensures.first ∙ c.make_record.ensures.first

pub returns-in-Ok-clause-passes : goal.returns-in-Ok-clause-passes
returns-in-Ok-clause-passes g c = c.write_page.ensures.passes

pub returns-in-Ok-clause-cause : goal.returns-in-Ok-clause-cause
returns-in-Ok-clause-cause g c = tt

pub returns-in-Err : goal.returns-in-Err
returns-in-Err g c = record {
  size = c.write_page.ensures.size ∙ c.make_record.ensures.size;
  first = c.write_page.ensures.first ∙ c.make_record.ensures.first;
  passes = c.write_page.ensures.passes;
  ready = tt;
  count = tt;
  filled = tt;
  cause = c.in-Err.ensures.cause;
}

pub overflow_mul-pages : goal.overflow_mul-pages
overflow_mul-pages g c =
    let few = pages-few c.args.layout c.args.filling.pages c.args.filling.records c.requires.layout c.requires.ready.few in
    omega (arith, pages-fit c.args.layout c.args.filling.pages c.requires.layout few)

pub overflow_add-result : goal.overflow_add-result
overflow_add-result g c = omega (arith, pages-few c.args.layout c.args.filling.pages c.args.filling.records c.requires.layout c.requires.ready.few)

pub write_page-requires-clause-filled : goal.write_page-requires-clause-filled
write_page-requires-clause-filled g c = omega (arith, rows-fit c.args.layout (c.args.filling.records + 1) c.requires.layout (omega (arith, c.requires.ready.some)), c.requires.size, c.make_record.ensures.size)

pub write_page-requires-clause-behind : goal.write_page-requires-clause-behind
write_page-requires-clause-behind g c = c.requires.ready.behind

pub make_record-requires-clause-within : goal.make_record-requires-clause-within
make_record-requires-clause-within g c = omega (arith, row-fits c.args.layout c.args.filling.records c.requires.layout c.requires.ready.some, c.requires.size)

pub overflow_mul-records-2 : goal.overflow_mul-records-2
overflow_mul-records-2 g c = omega (arith, rows-fit c.args.layout (c.args.filling.records + 1) c.requires.layout (omega (arith, c.requires.ready.some)), c.requires.layout.sized.1)

pub overflow_mul-records : goal.overflow_mul-records
overflow_mul-records g c = omega (arith, row-fits c.args.layout c.args.filling.records c.requires.layout c.requires.ready.some, c.requires.layout.sized.1)
