use Rattle.std.proofs.Common.{◌≤◌, ◌^◌, Some, sym, subst, ◌∙◌, arith, refl, ◌≡◌, ◌-◌, ◌+◌, ap, length, inl}
use Rattle.plan_b.specs.Spots.{IsSpot, IsRecord, IfNear}
use Rattle.plan_b.proofs.Reached.{held-record, near-loaded, page-length, near-spot}
use Rattle.outside.specs.ScratchView.{scratch_passes_none}
use Rattle.plan_b.proofs.loading.fetch_line.Goals as goal

pub near-requires-clause-is : goal.near-requires-clause-is
near-requires-clause-is g c j is =
    subst (λ page. IsRecord page c.args.layout j c.get-2.result) (sym c.page.ensures.is)
    (held-record c.args.pair.now c.args.layout (g.C.Scratch.view c.args.scratch.now) c.args.half j c.get-2.result (c.requires.held.loaded c.args.half j (sym c.get.ensures ∙ is))
    (subst (IsSpot c.args.layout j) (sym c.get-2.ensures) (c.requires.spots c.args.half j (sym c.get.ensures ∙ is))))

pub near-requires-clause-few : goal.near-requires-clause-few
near-requires-clause-few g c j is =
    let most : j ≤ c.args.layout.count = (c.requires.held.loaded c.args.half j (sym c.get.ensures ∙ is)).high in
    let few : c.args.layout.count ≤ 2 ^ 40 = c.requires.held.layout.few in
    omega arith

pub returns-in-Some : goal.returns-in-Some
returns-in-Some g c = record {
  size = refl;
  other = λ h ne. refl;
  loaded = (
      near-loaded c.args.pair.now c.args.layout c.args.halves (g.C.Scratch.view c.args.scratch.now) c.args.half c.get.result c.args.k c.in-Some.spot c.requires.held (sym c.get.ensures)
      (subst (λ page. IfNear page c.args.layout c.get.result c.args.k (Some c.in-Some.spot)) c.page.ensures.is c.in-Some.ensures) c.requires.high);
  spot = near-spot c.page.result.now c.args.layout c.get.result c.args.k c.in-Some.spot c.in-Some.ensures;
  passes = scratch_passes_none _;
  told = refl;
  reads = inl refl;
  still = λ has. refl;
  cause = tt;
}

pub returns-in-Ok : goal.returns-in-Ok
returns-in-Ok g c = record {
  size = c.find_line.ensures.size;
  other = c.find_line.ensures.other;
  loaded = c.in-Ok.ensures.loaded;
  spot = (
      let same : c.args.k - 1 + 1 ≡ c.args.k = omega (arith, c.requires.low) in
      subst (λ k. IsSpot c.args.layout k c.spot.result) same c.spot.ensures);
  passes = c.find_line.ensures.passes;
  told = c.find_line.ensures.told;
  reads = c.find_line.ensures.reads;
  still = c.find_line.ensures.still;
  cause = tt;
}

pub returns-in-Err : goal.returns-in-Err
returns-in-Err g c = record {
  size = c.find_line.ensures.size;
  other = c.find_line.ensures.other;
  loaded = tt;
  spot = tt;
  passes = c.find_line.ensures.passes;
  told = c.find_line.ensures.told;
  reads = c.find_line.ensures.reads;
  still = c.find_line.ensures.still;
  cause = c.in-Err.ensures.cause;
}

pub find_line-requires-clause-held : goal.find_line-requires-clause-held
find_line-requires-clause-held g c = c.requires.held

pub find_line-requires-clause-low : goal.find_line-requires-clause-low
find_line-requires-clause-low g c = c.requires.low

pub find_line-requires-clause-high : goal.find_line-requires-clause-high
find_line-requires-clause-high g c = c.requires.high

pub near-requires-clause-size : goal.near-requires-clause-size
near-requires-clause-size g c = ap length c.page.ensures.is ∙ page-length c.args.pair.now c.args.half c.page.ensures.pair ∙ sym c.requires.held.size

pub overflow_sub-k : goal.overflow_sub-k
overflow_sub-k g c = c.requires.low
