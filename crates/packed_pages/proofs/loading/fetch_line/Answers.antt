use Rattle.std.proofs.Common.{◌∙◌, sym, Some, subst, refl, arith}
use Rattle.packed_pages.specs.Steps.{IsWhole, IfNear}
use Rattle.packed_pages.proofs.Steps.{loaded-whole, near-loaded, near-line}
use Rattle.outside.specs.ScratchView.{scratch_passes_none}
use Rattle.packed_pages.proofs.loading.fetch_line.Goals as goal

pub near-requires-clause-whole : goal.near-requires-clause-whole
near-requires-clause-whole g c p is = subst (λ page. IsWhole page p) (sym c.page.ensures.is) (loaded-whole c.args.pair.now c.args.layout (g.C.Scratch.view c.args.scratch.now) c.args.half p (c.requires.held.loaded c.args.half p (sym c.get.ensures ∙ is)))

pub near-requires-clause-within : goal.near-requires-clause-within
near-requires-clause-within g c p is = (c.requires.held.loaded c.args.half p (sym c.get.ensures ∙ is)).on.high

pub returns-in-Some : goal.returns-in-Some
returns-in-Some g c = record {
  size = refl;
  other = λ h ne. refl;
  marked = c.requires.marked;
  loaded = (
      near-loaded c.args.pair.now c.args.layout c.args.places (g.C.Scratch.view c.args.scratch.now) c.args.half c.get.result c.args.k c.in-Some.place c.requires.held (sym c.get.ensures)
      (subst (λ page. IfNear page c.get.result c.args.k (Some c.in-Some.place)) c.page.ensures.is c.in-Some.ensures) c.requires.high);
  line = near-line c.page.result.now c.get.result c.args.k c.in-Some.place c.in-Some.ensures;
  passes = scratch_passes_none _;
  told = refl;
  reads = λ digits lt. omega arith;
  still = λ has. refl;
  cause = tt;
}

pub returns-in-None : goal.returns-in-None
returns-in-None g c = record {
  size = c.find_line.ensures.size;
  other = c.find_line.ensures.other;
  marked = c.find_line.ensures.marked;
  loaded = c.find_line.ensures.loaded;
  line = c.find_line.ensures.line;
  passes = c.find_line.ensures.passes;
  told = c.find_line.ensures.told;
  reads = c.find_line.ensures.reads;
  still = c.find_line.ensures.still;
  cause = c.find_line.ensures.cause;
}

pub find_line-requires-clause-held : goal.find_line-requires-clause-held
find_line-requires-clause-held g c = c.requires.held

pub find_line-requires-clause-marked : goal.find_line-requires-clause-marked
find_line-requires-clause-marked g c = c.requires.marked

pub find_line-requires-clause-low : goal.find_line-requires-clause-low
find_line-requires-clause-low g c = c.requires.low

pub find_line-requires-clause-high : goal.find_line-requires-clause-high
find_line-requires-clause-high g c = c.requires.high
