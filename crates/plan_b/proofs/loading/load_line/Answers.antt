use Rattle.std.proofs.Common.{refl, sym, subst, ◌∙◌, arith}
use Rattle.plan_b.specs.Held.{IsLoaded}
use Rattle.plan_b.specs.Spots.{IsSpot}
use Rattle.plan_b.proofs.Reached.{spots-more}
use Rattle.std.proofs.lemmas.Option.{none-some, same_Some}
use Rattle.plan_b.proofs.HeldLemmas.{held-more, load-cause}
use Rattle.plan_b.proofs.loading.load_line.Goals as goal

pub returns-in-Ok-clause-held : goal.returns-in-Ok-clause-held
returns-in-Ok-clause-held g c =
    let view = g.C.Scratch.view in
    held-more c.args.pair.now c.fetch_line.new.pair c.args.layout c.args.halves.now c.set.new.self (view c.args.scratch.now) (view c.fetch_line.new.scratch) c.args.half
    c.requires.held c.fetch_line.ensures.size c.fetch_line.ensures.told c.fetch_line.ensures.other c.set.ensures.other
    (λ k is. let e = same_Some c.args.k k (sym c.set.ensures.held ∙ is) in
    subst (λ n. IsLoaded c.fetch_line.new.pair c.args.layout (view c.fetch_line.new.scratch) c.args.half n) e c.in-Ok.ensures.loaded)

pub returns-in-Err-clause-held : goal.returns-in-Err-clause-held
returns-in-Err-clause-held g c =
    let view = g.C.Scratch.view in
    held-more c.args.pair.now c.fetch_line.new.pair c.args.layout c.args.halves.now c.set-in-Err.new.self (view c.args.scratch.now) (view c.fetch_line.new.scratch) c.args.half
    c.requires.held c.fetch_line.ensures.size c.fetch_line.ensures.told c.fetch_line.ensures.other c.set-in-Err.ensures.other
    (λ k is. absurd (none-some k (sym c.set-in-Err.ensures.held ∙ is)))

pub returns-in-Err-clause-cause : goal.returns-in-Err-clause-cause
returns-in-Err-clause-cause g c = load-cause c.in-Err.fault c.args.layout c.args.halves.now c.set-in-Err.new.self (g.C.Scratch.view c.args.scratch.now) (g.C.Scratch.view c.fetch_line.new.scratch) (omega arith) c.in-Err.ensures.cause

pub returns-in-Ok-clause-spots : goal.returns-in-Ok-clause-spots
returns-in-Ok-clause-spots g c =
    spots-more c.args.layout c.args.halves.now c.set.new.self c.args.spots.now c.set-in-Ok.new.self c.args.half c.requires.spots c.set.ensures.other c.set-in-Ok.ensures.other
    (λ k is. let e = same_Some c.args.k k (sym c.set.ensures.held ∙ is) in
    subst (IsSpot c.args.layout k) (sym c.set-in-Ok.ensures.set) (subst (λ n. IsSpot c.args.layout n c.in-Ok.spot) e c.in-Ok.ensures.spot))

pub returns-in-Err-clause-spots : goal.returns-in-Err-clause-spots
returns-in-Err-clause-spots g c =
    spots-more c.args.layout c.args.halves.now c.set-in-Err.new.self c.args.spots.now c.args.spots.now c.args.half c.requires.spots c.set-in-Err.ensures.other (λ h ne. refl)
    (λ k is. absurd (none-some k (sym c.set-in-Err.ensures.held ∙ is)))

pub returns-in-Ok-clause-spot : goal.returns-in-Ok-clause-spot
returns-in-Ok-clause-spot g c = c.in-Ok.ensures.spot

pub returns-in-Ok-clause-loaded : goal.returns-in-Ok-clause-loaded
returns-in-Ok-clause-loaded g c = c.set.ensures.held

pub returns-in-Ok-clause-page : goal.returns-in-Ok-clause-page
returns-in-Ok-clause-page g c = c.in-Ok.ensures.loaded.page

pub returns-in-Ok-clause-dropped : goal.returns-in-Ok-clause-dropped
returns-in-Ok-clause-dropped g c = tt

pub returns-in-Ok-clause-other : goal.returns-in-Ok-clause-other
returns-in-Ok-clause-other g c = c.set.ensures.other

pub returns-in-Ok-clause-other_page : goal.returns-in-Ok-clause-other_page
returns-in-Ok-clause-other_page g c = c.fetch_line.ensures.other

pub returns-in-Ok-clause-cause : goal.returns-in-Ok-clause-cause
returns-in-Ok-clause-cause g c = tt

pub returns-in-Ok-clause-reads : goal.returns-in-Ok-clause-reads
returns-in-Ok-clause-reads g c = c.fetch_line.ensures.reads

pub returns-in-Ok-clause-still : goal.returns-in-Ok-clause-still
returns-in-Ok-clause-still g c = c.fetch_line.ensures.still

pub returns-in-Err-clause-spot : goal.returns-in-Err-clause-spot
returns-in-Err-clause-spot g c = tt

pub returns-in-Err-clause-loaded : goal.returns-in-Err-clause-loaded
returns-in-Err-clause-loaded g c = tt

pub returns-in-Err-clause-page : goal.returns-in-Err-clause-page
returns-in-Err-clause-page g c = tt

pub returns-in-Err-clause-dropped : goal.returns-in-Err-clause-dropped
returns-in-Err-clause-dropped g c = c.set-in-Err.ensures.held

pub returns-in-Err-clause-other : goal.returns-in-Err-clause-other
returns-in-Err-clause-other g c = c.set-in-Err.ensures.other

pub returns-in-Err-clause-other_page : goal.returns-in-Err-clause-other_page
returns-in-Err-clause-other_page g c = c.fetch_line.ensures.other

pub returns-in-Err-clause-reads : goal.returns-in-Err-clause-reads
returns-in-Err-clause-reads g c = c.fetch_line.ensures.reads

pub returns-in-Err-clause-still : goal.returns-in-Err-clause-still
returns-in-Err-clause-still g c = c.fetch_line.ensures.still

pub fetch_line-requires-clause-held : goal.fetch_line-requires-clause-held
fetch_line-requires-clause-held g c = c.requires.held

pub fetch_line-requires-clause-spots : goal.fetch_line-requires-clause-spots
fetch_line-requires-clause-spots g c = c.requires.spots

pub fetch_line-requires-clause-low : goal.fetch_line-requires-clause-low
fetch_line-requires-clause-low g c = c.requires.low

pub fetch_line-requires-clause-high : goal.fetch_line-requires-clause-high
fetch_line-requires-clause-high g c = c.requires.high
