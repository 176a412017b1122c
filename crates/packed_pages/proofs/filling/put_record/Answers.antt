use Rattle.std.proofs.Common.{◌≡◌, ◌+◌, ◌≤◌, length, take, drop, refl, sym, ap, subst, arith, ◌∙◌}
use Rattle.line_store.specs.declared.Half.TheVariants.{First, Second}
use Rattle.page_pair.specs.Pair.{page_of}
use Rattle.page_pair.specs.Records.{Extends, record_of}
use Rattle.packed_pages.proofs.Fillings.{filled-fits, filled-next, ready-next, line-length}
use Rattle.outside.specs.ScratchView.{scratch_passes_none}
use Rattle.packed_pages.proofs.filling.put_record.Goals as goal

pub returns-then-filled-bytes-clause-filled : goal.returns-then-filled-bytes-clause-filled
returns-then-filled-bytes-clause-filled g c ls was =
    let f = c.args.filling in
    let len : length (take c.args.count (drop c.args.from (page_of c.args.pair.now First))) ≡ c.args.count = line-length (page_of c.args.pair.now First) c.args.from c.args.count c.args.pair.now.size c.size-size.ensures.pair.first c.requires.read in
    filled-fits c.args.layout (g.C.Scratch.view c.args.scratch.now).told (page_of c.args.pair.now Second) (page_of c.make_record.new.pair Second) (take c.args.count (drop c.args.from (page_of c.args.pair.now First))) c.args.filling
    (record { room = record { pages = f.room.pages; filled = f.room.filled + (4 + c.args.count) }; first = f.first; count = f.count + 1 }) ls
    (ap (λ n. record { pages = f.room.pages; filled = f.room.filled + (4 + n) }) (sym len)) refl refl (omega arith)
    (subst (λ n. Extends (page_of c.args.pair.now Second) (page_of c.make_record.new.pair Second) f.room.filled (record_of (4 + n) (take c.args.count (drop c.args.from (page_of c.args.pair.now First))))) (sym len) c.make_record.ensures.made) was

pub returns-clause-ready : goal.returns-clause-ready
returns-clause-ready g c =
    let view = g.C.Scratch.view in
    let f = c.args.filling in
    let second : length (page_of c.args.pair.now Second) ≡ c.args.pair.now.size = c.size-size.ensures.pair.second in
    let size : c.args.layout.size ≡ c.args.pair.now.size = c.requires.size in
    let filled : f.room.filled ≤ c.args.layout.size = c.requires.ready.filled in
    let pages : f.room.pages ≤ c.args.layout.pages = c.requires.ready.pages in
    ready-next c.args.layout (view c.args.scratch.now).told (view c.flush.new.scratch).told (page_of c.args.pair.now Second) f (record { room = record { pages = f.room.pages + 1; filled = 4 + c.args.count }; first = f.count + 1; count = f.count + 1 })
    (omega arith) c.requires.ready (omega arith) refl (omega arith) (omega arith) c.flush.ensures.passes.telling c.in-Ok.ensures.written

pub returns-clause-filled : goal.returns-clause-filled
returns-clause-filled g c ls was =
    let view = g.C.Scratch.view in
    let f = c.args.filling in
    let len : length (take c.args.count (drop c.args.from (page_of c.args.pair.now First))) ≡ c.args.count = line-length (page_of c.args.pair.now First) c.args.from c.args.count c.args.pair.now.size c.size-size.ensures.pair.first c.requires.read in
    let pages : f.room.pages ≤ c.args.layout.pages = c.requires.ready.pages in
    let made = subst (λ p. Extends (page_of c.flush.new.pair Second) (page_of c.make_record-2.new.pair Second) 0 (record_of (4 + c.args.count) (take c.args.count (drop c.args.from p)))) c.flush.ensures.first c.make_record-2.ensures.made in
    filled-next c.args.layout (view c.args.scratch.now).told (view c.flush.new.scratch).told (page_of c.args.pair.now Second) (page_of c.flush.new.pair Second) (page_of c.make_record-2.new.pair Second) (take c.args.count (drop c.args.from (page_of c.args.pair.now First))) c.args.filling
    (record { room = record { pages = f.room.pages + 1; filled = 4 + c.args.count }; first = f.count + 1; count = f.count + 1 }) ls
    (ap (λ n. record { pages = f.room.pages + 1; filled = 4 + n }) (sym len)) refl refl (omega arith) c.requires.ready.filled (omega arith) c.flush.ensures.passes.telling c.in-Ok.ensures.written
    (subst (λ n. Extends (page_of c.flush.new.pair Second) (page_of c.make_record-2.new.pair Second) 0 (record_of (4 + n) (take c.args.count (drop c.args.from (page_of c.args.pair.now First))))) (sym len) made) was

pub returns-in-Err-clause-size : goal.returns-in-Err-clause-size
returns-in-Err-clause-size g c = c.in-Err.ensures.size

pub returns-in-Err-clause-first : goal.returns-in-Err-clause-first
returns-in-Err-clause-first g c = c.in-Err.ensures.first

pub returns-in-Err-clause-passes : goal.returns-in-Err-clause-passes
returns-in-Err-clause-passes g c = c.in-Err.ensures.passes

pub returns-in-Err-clause-ready : goal.returns-in-Err-clause-ready
returns-in-Err-clause-ready g c = tt

pub returns-in-Err-clause-count : goal.returns-in-Err-clause-count
returns-in-Err-clause-count g c = tt

pub returns-in-Err-clause-room : goal.returns-in-Err-clause-room
returns-in-Err-clause-room g c = tt

pub returns-in-Err-clause-filled : goal.returns-in-Err-clause-filled
returns-in-Err-clause-filled g c = tt

pub returns-then-filled-bytes-clause-size : goal.returns-then-filled-bytes-clause-size
returns-then-filled-bytes-clause-size g c = c.make_record.ensures.size

pub returns-then-filled-bytes-clause-first : goal.returns-then-filled-bytes-clause-first
returns-then-filled-bytes-clause-first g c = c.make_record.ensures.first

pub returns-then-filled-bytes-clause-passes : goal.returns-then-filled-bytes-clause-passes
returns-then-filled-bytes-clause-passes g c = scratch_passes_none _

pub returns-then-filled-bytes-clause-count : goal.returns-then-filled-bytes-clause-count
returns-then-filled-bytes-clause-count g c = refl

pub returns-then-filled-bytes-clause-cause : goal.returns-then-filled-bytes-clause-cause
returns-then-filled-bytes-clause-cause g c = tt

pub returns-clause-size : goal.returns-clause-size
returns-clause-size g c = c.make_record-2.ensures.size ∙ c.flush.ensures.size

pub returns-clause-first : goal.returns-clause-first
returns-clause-first g c = c.make_record-2.ensures.first ∙ c.flush.ensures.first

pub returns-clause-passes : goal.returns-clause-passes
returns-clause-passes g c = c.in-Ok.ensures.passes

pub returns-clause-count : goal.returns-clause-count
returns-clause-count g c = refl

pub returns-clause-cause : goal.returns-clause-cause
returns-clause-cause g c = tt

pub returns-then-pages-layout-clause-size : goal.returns-then-pages-layout-clause-size
returns-then-pages-layout-clause-size g c = refl

pub returns-then-pages-layout-clause-first : goal.returns-then-pages-layout-clause-first
returns-then-pages-layout-clause-first g c = refl

pub returns-then-pages-layout-clause-passes : goal.returns-then-pages-layout-clause-passes
returns-then-pages-layout-clause-passes g c = scratch_passes_none _

pub returns-then-pages-layout-clause-ready : goal.returns-then-pages-layout-clause-ready
returns-then-pages-layout-clause-ready g c = tt

pub returns-then-pages-layout-clause-count : goal.returns-then-pages-layout-clause-count
returns-then-pages-layout-clause-count g c = tt

pub returns-then-pages-layout-clause-room : goal.returns-then-pages-layout-clause-room
returns-then-pages-layout-clause-room g c = tt

pub returns-then-pages-layout-clause-filled : goal.returns-then-pages-layout-clause-filled
returns-then-pages-layout-clause-filled g c = tt

pub flush-requires-clause-layout : goal.flush-requires-clause-layout
flush-requires-clause-layout g c = c.requires.layout

pub flush-requires-clause-size : goal.flush-requires-clause-size
flush-requires-clause-size g c = c.requires.size

pub flush-requires-clause-ready : goal.flush-requires-clause-ready
flush-requires-clause-ready g c = c.requires.ready

pub make_record-requires-clause-read : goal.make_record-requires-clause-read
make_record-requires-clause-read g c = c.requires.read

pub returns-then-filled-bytes-clause-ready : goal.returns-then-filled-bytes-clause-ready
returns-then-filled-bytes-clause-ready g c = record { filled = c.if-filled-bytes.true; pages = c.requires.ready.pages; few = omega (arith, c.requires.few); behind = c.requires.ready.behind }
