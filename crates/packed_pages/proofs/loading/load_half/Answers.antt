use Rattle.std.proofs.Common.{refl, sym, ap, subst, Some, ◌∙◌, arith}
use Rattle.std.specs.Option.{option_map}
use Rattle.packed_pages.specs.Held.{place_of}
use Rattle.packed_pages.specs.Steps.{IsWhole, IfReaches}
use Rattle.packed_pages.proofs.HeldLemmas.{held-more}
use Rattle.packed_pages.proofs.Steps.{loaded-whole, moved-loaded, moved-line, moved-page}
use Rattle.packed_pages.proofs.loading.load_half.Goals as goal

pub reach_near-requires-clause-whole : goal.reach_near-requires-clause-whole
reach_near-requires-clause-whole g c p is = subst (λ page. IsWhole page p) (sym c.page.ensures.is) (loaded-whole c.args.pair.now c.args.layout (g.C.Scratch.view c.args.scratch.now) c.args.half p (c.requires.held.loaded c.args.half p is))

pub reach_near-requires-clause-within : goal.reach_near-requires-clause-within
reach_near-requires-clause-within g c p is = (c.requires.held.loaded c.args.half p is).on.high

pub returns-in-Some : goal.returns-in-Some
returns-in-Some g c = record {
  held = (
      let view = g.C.Scratch.view in
      let reaches = subst (λ page. IfReaches page (place_of c.args.places.now c.args.half) c.args.k (Some c.in-Some.at)) c.page.ensures.is c.in-Some.ensures in
      held-more c.args.pair.now c.args.pair.now c.args.layout c.args.places.now c.go_to.new.self (view c.args.scratch.now) (view c.args.scratch.now) c.args.half
      c.requires.held refl refl (λ h ne. refl) c.go_to.ensures.other
      (λ x is. moved-loaded c.args.pair.now c.args.layout c.args.places.now (view c.args.scratch.now) c.args.half (place_of c.args.places.now c.args.half) c.args.k c.in-Some.at x c.requires.held refl reaches c.requires.high (sym c.go_to.ensures.held ∙ is)));
  marked = c.requires.marked;
  loaded = ap (option_map (λ p. p.line)) c.go_to.ensures.held ∙ moved-line c.page.result.now (place_of c.args.places.now c.args.half) c.args.k c.in-Some.at c.in-Some.ensures;
  page = λ x is b told. (
      let view = g.C.Scratch.view in
      let reaches = subst (λ page. IfReaches page (place_of c.args.places.now c.args.half) c.args.k (Some c.in-Some.at)) c.page.ensures.is c.in-Some.ensures in
      moved-page c.args.pair.now c.args.layout c.args.places.now (view c.args.scratch.now) c.args.half (place_of c.args.places.now c.args.half) c.args.k c.in-Some.at x b c.requires.held refl reaches c.requires.low c.requires.high (sym c.go_to.ensures.held ∙ is) told);
  dropped = tt;
  other = c.go_to.ensures.other;
  other_page = λ h ne. refl;
  keeps = record { told = refl; count = refl; faults = omega arith; scratch = refl; size = refl; needs_memory = refl };
  cause = tt;
  reads = λ digits lt. omega arith;
  still = λ has. refl;
}

pub returns-in-Ok : goal.returns-in-Ok
returns-in-Ok g c = record {
  held = c.in-Ok.ensures.held;
  marked = c.in-Ok.ensures.marked;
  loaded = c.in-Ok.ensures.loaded;
  page = c.in-Ok.ensures.page;
  dropped = tt;
  other = c.in-Ok.ensures.other;
  other_page = c.in-Ok.ensures.other_page;
  keeps = c.in-Ok.ensures.keeps;
  cause = tt;
  reads = c.in-Ok.ensures.reads;
  still = c.in-Ok.ensures.still;
}

pub returns-in-Err : goal.returns-in-Err
returns-in-Err g c = record {
  held = c.in-Err.ensures.held;
  marked = c.in-Err.ensures.marked;
  loaded = tt;
  page = tt;
  dropped = c.in-Err.ensures.dropped;
  other = c.in-Err.ensures.other;
  other_page = c.in-Err.ensures.other_page;
  keeps = c.in-Err.ensures.keeps;
  cause = c.in-Err.ensures.cause;
  reads = c.in-Err.ensures.reads;
  still = c.in-Err.ensures.still;
}

pub load_line-requires-clause-held : goal.load_line-requires-clause-held
load_line-requires-clause-held g c = c.requires.held

pub load_line-requires-clause-marked : goal.load_line-requires-clause-marked
load_line-requires-clause-marked g c = c.requires.marked

pub load_line-requires-clause-low : goal.load_line-requires-clause-low
load_line-requires-clause-low g c = c.requires.low

pub load_line-requires-clause-high : goal.load_line-requires-clause-high
load_line-requires-clause-high g c = c.requires.high
