use Rattle.std.proofs.Common.{◌≤◌, ◌<◌, ◌+◌, IfSome, sym, subst, ◌∙◌, arith}
use Rattle.line_store.specs.Store.{IsLastAlike}
use Rattle.line_store.proofs.StoreLemmas.{keeps-more, cause-more}
use Rattle.packed_pages.specs.Held.{seen_of}
use Rattle.packed_pages.proofs.Steps.{later-alike, later-within}
use Rattle.packed_pages.proofs.alike.last_between.Goals as goal

pub loop-k-preserved : goal.loop-k-preserved
loop-k-preserved g c =
    let view = g.C.Scratch.view in
    let was = c.loop-k.invariant in
    let now = c.in-Ok.ensures in
    let l = c.args.layout in
    let a : c.args.from ≤ c.loop-k.k = c.loop-k.invariant.from in
    let b : c.loop-k.k ≤ c.in-Ok.reached.line = c.in-Ok.ensures.on in
    let d : c.in-Ok.reached.line < c.args.to = c.in-Ok.ensures.within in
    record {
      held = now.held;
      marked = now.marked;
      from = omega arith;
      none = λ lines told. subst (IsLastAlike lines c.args.line.now c.args.from (c.in-Ok.reached.line + 1)) (sym c.or-found.ensures) (later-alike lines c.args.line.now c.args.from c.loop-k.k (c.in-Ok.reached.line + 1) c.loop-k.found c.in-Ok.reached.alike (was.none lines told) (now.value lines (was.keeps.told ∙ told)));
      within = subst (λ o. IfSome o (λ k. (c.args.from ≤ k) × (k < c.in-Ok.reached.line + 1))) (sym c.or-found.ensures) (later-within c.args.from c.loop-k.k (c.in-Ok.reached.line + 1) c.loop-k.found c.in-Ok.reached.alike a (omega arith) was.within now.between);
      high = omega arith;
      other = λ h ne. now.other h ne ∙ was.other h ne;
      keeps = keeps-more (seen_of c.args.layout c.args.places.now (view c.args.scratch.now)) (seen_of c.args.layout c.loop-k.places (view c.loop-k.scratch)) (seen_of c.args.layout c.last_on_page.new.places (view c.last_on_page.new.scratch)) was.keeps now.keeps;
    }

pub returns-in-Err : goal.returns-in-Err
returns-in-Err g c = record {
  held = c.in-Err.ensures.held;
  marked = c.in-Err.ensures.marked;
  within = tt;
  value = tt;
  other = λ h ne. c.in-Err.ensures.other h ne ∙ c.loop-k.invariant.other h ne;
  keeps = keeps-more (seen_of c.args.layout c.args.places.now (g.C.Scratch.view c.args.scratch.now)) (seen_of c.args.layout c.loop-k.places (g.C.Scratch.view c.loop-k.scratch)) (seen_of c.args.layout c.last_on_page.new.places (g.C.Scratch.view c.last_on_page.new.scratch)) c.loop-k.invariant.keeps c.in-Err.ensures.keeps;
  cause = cause-more c.in-Err.fault (seen_of c.args.layout c.args.places.now (g.C.Scratch.view c.args.scratch.now)) (seen_of c.args.layout c.loop-k.places (g.C.Scratch.view c.loop-k.scratch)) (seen_of c.args.layout c.last_on_page.new.places (g.C.Scratch.view c.last_on_page.new.scratch)) c.loop-k.invariant.keeps c.in-Err.ensures.cause;
}

pub returns-clause-held : goal.returns-clause-held
returns-clause-held g c = c.loop-k.invariant.held

pub returns-clause-marked : goal.returns-clause-marked
returns-clause-marked g c = c.loop-k.invariant.marked

pub returns-clause-other : goal.returns-clause-other
returns-clause-other g c = c.loop-k.invariant.other

pub returns-clause-keeps : goal.returns-clause-keeps
returns-clause-keeps g c = c.loop-k.invariant.keeps

pub returns-clause-cause : goal.returns-clause-cause
returns-clause-cause g c = tt

pub overflow_add-k : goal.overflow_add-k
overflow_add-k g c = omega (arith, c.in-Ok.ensures.within, c.ranges.to.fits)

pub loop-k-smaller : goal.loop-k-smaller
loop-k-smaller g c = omega (arith, c.loop-k-test.true, c.in-Ok.ensures.on)
