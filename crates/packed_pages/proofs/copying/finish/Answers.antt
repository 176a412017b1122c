use Rattle.std.proofs.Common.{◌≡◌, ◌+◌, min, arith, refl}
use Rattle.line_store.specs.declared.Half.TheVariants.{Second}
use Rattle.page_pair.specs.Pair.{page_of}
use Rattle.packed_pages.proofs.Copyings.{packed-all, packed-more}
use Rattle.outside.specs.ScratchView.{scratch_passes_none}
use Rattle.packed_pages.proofs.copying.finish.Goals as goal

pub returns-then-filling-eq0-clause-pages : goal.returns-then-filling-eq0-clause-pages
returns-then-filling-eq0-clause-pages g c ls was =
    let none : c.args.filling.room.filled ≡ 0 = c.if-filling-eq0.true in
    let pages : c.page_count-pages.result ≡ c.args.filling.room.pages + min 1 c.args.filling.room.filled = c.page_count-pages.ensures in
    let same : c.page_count-pages.result ≡ c.args.layout.pages = omega arith in
    packed-all c.args.layout (g.C.Scratch.view c.args.scratch.now).told (page_of c.args.pair.now Second) c.args.filling ls none (omega arith) was

pub returns-in-Ok-clause-pages : goal.returns-in-Ok-clause-pages
returns-in-Ok-clause-pages g c ls was =
    let view = g.C.Scratch.view in
    let pages : c.page_count-pages.result ≡ c.args.filling.room.pages + min 1 c.args.filling.room.filled = c.page_count-pages.ensures in
    let same : c.page_count-pages.result ≡ c.args.layout.pages = omega arith in
    packed-more c.args.layout (view c.args.scratch.now).told (view c.flush.new.scratch).told (page_of c.args.pair.now Second) c.args.filling ls c.if-filling-eq0.false c.requires.ready.filled (omega arith) c.flush.ensures.passes.telling c.in-Ok.ensures.written was

pub returns-then-filling-eq0-clause-size : goal.returns-then-filling-eq0-clause-size
returns-then-filling-eq0-clause-size g c = refl

pub returns-then-filling-eq0-clause-passes : goal.returns-then-filling-eq0-clause-passes
returns-then-filling-eq0-clause-passes g c = scratch_passes_none _

pub returns-then-filling-eq0-clause-cause : goal.returns-then-filling-eq0-clause-cause
returns-then-filling-eq0-clause-cause g c = tt

pub returns-in-Ok-clause-size : goal.returns-in-Ok-clause-size
returns-in-Ok-clause-size g c = c.flush.ensures.size

pub returns-in-Ok-clause-passes : goal.returns-in-Ok-clause-passes
returns-in-Ok-clause-passes g c = c.in-Ok.ensures.passes

pub returns-in-Ok-clause-cause : goal.returns-in-Ok-clause-cause
returns-in-Ok-clause-cause g c = tt

pub returns-in-Err-clause-size : goal.returns-in-Err-clause-size
returns-in-Err-clause-size g c = c.flush.ensures.size

pub returns-in-Err-clause-passes : goal.returns-in-Err-clause-passes
returns-in-Err-clause-passes g c = c.in-Err.ensures.passes

pub returns-in-Err-clause-count : goal.returns-in-Err-clause-count
returns-in-Err-clause-count g c = tt

pub returns-in-Err-clause-pages : goal.returns-in-Err-clause-pages
returns-in-Err-clause-pages g c = tt

pub returns-then-filling-layout-clause-size : goal.returns-then-filling-layout-clause-size
returns-then-filling-layout-clause-size g c = refl

pub returns-then-filling-layout-clause-passes : goal.returns-then-filling-layout-clause-passes
returns-then-filling-layout-clause-passes g c = scratch_passes_none _

pub returns-then-filling-layout-clause-count : goal.returns-then-filling-layout-clause-count
returns-then-filling-layout-clause-count g c = tt

pub returns-then-filling-layout-clause-pages : goal.returns-then-filling-layout-clause-pages
returns-then-filling-layout-clause-pages g c = tt

pub returns-then-pages-layout-clause-size : goal.returns-then-pages-layout-clause-size
returns-then-pages-layout-clause-size g c = refl

pub returns-then-pages-layout-clause-passes : goal.returns-then-pages-layout-clause-passes
returns-then-pages-layout-clause-passes g c = scratch_passes_none _

pub returns-then-pages-layout-clause-count : goal.returns-then-pages-layout-clause-count
returns-then-pages-layout-clause-count g c = tt

pub returns-then-pages-layout-clause-pages : goal.returns-then-pages-layout-clause-pages
returns-then-pages-layout-clause-pages g c = tt

pub flush-requires-clause-layout : goal.flush-requires-clause-layout
flush-requires-clause-layout g c = c.requires.layout

pub flush-requires-clause-size : goal.flush-requires-clause-size
flush-requires-clause-size g c = c.requires.size

pub flush-requires-clause-ready : goal.flush-requires-clause-ready
flush-requires-clause-ready g c = c.requires.ready
