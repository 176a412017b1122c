use Rattle.std.proofs.Common.{sym, subst, ◌∙◌, arith, refl, ap}
use Rattle.std.proofs.lemmas.Option.{none-some, same_Some}
use Rattle.packed_pages.specs.declared.places.RecordPlace.{RecordPlace}
use Rattle.packed_pages.specs.Layout.{IsPageOf, lines_told}
use Rattle.packed_pages.specs.Held.{IsLoaded}
use Rattle.packed_pages.proofs.HeldLemmas.{held-more, load-cause}
use Rattle.packed_pages.proofs.Spans.{page-plain}
use Rattle.packed_pages.proofs.loading.load_line.Goals as goal

pub returns-in-Ok-clause-held : goal.returns-in-Ok-clause-held
returns-in-Ok-clause-held g c =
    let view = g.C.Scratch.view in
    held-more c.args.pair.now c.fetch_line.new.pair c.args.layout c.args.places.now c.set.new.self (view c.args.scratch.now) (view c.fetch_line.new.scratch) c.args.half
    c.requires.held c.fetch_line.ensures.size c.fetch_line.ensures.told c.fetch_line.ensures.other c.set.ensures.other
    (λ x is. let e = same_Some c.in-Ok.place x (sym c.set.ensures.held ∙ is) in
    subst (IsLoaded c.fetch_line.new.pair c.args.layout (view c.fetch_line.new.scratch) c.args.half) e c.in-Ok.ensures.loaded)

pub returns-in-Ok-clause-page : goal.returns-in-Ok-clause-page
returns-in-Ok-clause-page g c x is b told =
    let e = same_Some c.in-Ok.place x (sym c.set.ensures.held ∙ is) in
    let on = c.in-Ok.ensures.loaded.on in
    let page = on.told b told in
    subst (λ (p : RecordPlace). IsPageOf c.args.layout b c.args.k p.page) e
    (subst (λ k. IsPageOf c.args.layout b k c.in-Ok.place.page) c.in-Ok.ensures.line
    (page-plain c.args.layout b c.in-Ok.place.line c.in-Ok.place.page c.in-Ok.place.first c.in-Ok.place.next c.requires.held.layout (c.requires.held.packs (omega arith) b (sym c.fetch_line.ensures.told ∙ told)) on.page page.first page.next on.low on.high))

pub returns-in-Err-clause-held : goal.returns-in-Err-clause-held
returns-in-Err-clause-held g c =
    let view = g.C.Scratch.view in
    held-more c.args.pair.now c.fetch_line.new.pair c.args.layout c.args.places.now c.set-in-Err.new.self (view c.args.scratch.now) (view c.fetch_line.new.scratch) c.args.half
    c.requires.held c.fetch_line.ensures.size c.fetch_line.ensures.told c.fetch_line.ensures.other c.set-in-Err.ensures.other
    (λ x is. absurd (none-some x (sym c.set-in-Err.ensures.held ∙ is)))

pub returns-in-Err-clause-cause : goal.returns-in-Err-clause-cause
returns-in-Err-clause-cause g c = load-cause c.in-Err.fault c.args.layout c.args.places.now c.set-in-Err.new.self (g.C.Scratch.view c.args.scratch.now) (g.C.Scratch.view c.fetch_line.new.scratch) (omega arith) c.in-Err.ensures.cause

pub returns-in-Err-clause-loaded : goal.returns-in-Err-clause-loaded
returns-in-Err-clause-loaded g c = tt

pub returns-in-Err-clause-place : goal.returns-in-Err-clause-place
returns-in-Err-clause-place g c = tt

pub returns-in-Err-clause-line : goal.returns-in-Err-clause-line
returns-in-Err-clause-line g c = tt

pub returns-in-Err-clause-page : goal.returns-in-Err-clause-page
returns-in-Err-clause-page g c = tt

pub returns-in-Err-clause-marked : goal.returns-in-Err-clause-marked
returns-in-Err-clause-marked g c = c.fetch_line.ensures.marked

pub returns-in-Err-clause-other_page : goal.returns-in-Err-clause-other_page
returns-in-Err-clause-other_page g c = c.fetch_line.ensures.other

pub returns-in-Err-clause-other : goal.returns-in-Err-clause-other
returns-in-Err-clause-other g c = c.set-in-Err.ensures.other

pub returns-in-Err-clause-reads : goal.returns-in-Err-clause-reads
returns-in-Err-clause-reads g c = c.fetch_line.ensures.reads

pub returns-in-Err-clause-still : goal.returns-in-Err-clause-still
returns-in-Err-clause-still g c = c.fetch_line.ensures.still

pub returns-in-Ok-clause-marked : goal.returns-in-Ok-clause-marked
returns-in-Ok-clause-marked g c = c.fetch_line.ensures.marked

pub returns-in-Ok-clause-place : goal.returns-in-Ok-clause-place
returns-in-Ok-clause-place g c = c.set.ensures.held

pub returns-in-Ok-clause-line : goal.returns-in-Ok-clause-line
returns-in-Ok-clause-line g c = c.in-Ok.ensures.line

pub returns-in-Ok-clause-dropped : goal.returns-in-Ok-clause-dropped
returns-in-Ok-clause-dropped g c = tt

pub returns-in-Ok-clause-cause : goal.returns-in-Ok-clause-cause
returns-in-Ok-clause-cause g c = tt

pub returns-in-Ok-clause-other_page : goal.returns-in-Ok-clause-other_page
returns-in-Ok-clause-other_page g c = c.fetch_line.ensures.other

pub returns-in-Ok-clause-other : goal.returns-in-Ok-clause-other
returns-in-Ok-clause-other g c = c.set.ensures.other

pub returns-in-Ok-clause-reads : goal.returns-in-Ok-clause-reads
returns-in-Ok-clause-reads g c = c.fetch_line.ensures.reads

pub returns-in-Ok-clause-still : goal.returns-in-Ok-clause-still
returns-in-Ok-clause-still g c = c.fetch_line.ensures.still

pub returns-in-Ok-clause-keeps : goal.returns-in-Ok-clause-keeps
returns-in-Ok-clause-keeps g c = record { told = ap (lines_told c.args.layout) c.fetch_line.ensures.told; count = refl; faults = c.fetch_line.ensures.passes.counts; scratch = c.fetch_line.ensures.told; size = refl; needs_memory = refl }

pub returns-in-Err-clause-keeps : goal.returns-in-Err-clause-keeps
returns-in-Err-clause-keeps g c = record { told = ap (lines_told c.args.layout) c.fetch_line.ensures.told; count = refl; faults = c.fetch_line.ensures.passes.counts; scratch = c.fetch_line.ensures.told; size = refl; needs_memory = refl }

pub fetch_line-requires-clause-held : goal.fetch_line-requires-clause-held
fetch_line-requires-clause-held g c = c.requires.held

pub fetch_line-requires-clause-marked : goal.fetch_line-requires-clause-marked
fetch_line-requires-clause-marked g c = c.requires.marked

pub fetch_line-requires-clause-low : goal.fetch_line-requires-clause-low
fetch_line-requires-clause-low g c = c.requires.low

pub fetch_line-requires-clause-high : goal.fetch_line-requires-clause-high
fetch_line-requires-clause-high g c = c.requires.high
