use Rattle.std.proofs.Common.{◌≤◌, ◌-◌, refl, sym, subst, ◌∙◌, arith, ap, length}
use Rattle.plan_b.specs.Held.{IsLoaded}
use Rattle.plan_b.specs.Spots.{IsSpot, IsRecord, Follows}
use Rattle.plan_b.proofs.HeldLemmas.{held-more}
use Rattle.plan_b.proofs.Reached.{held-record, follows-loaded, spots-more, finds-last, page-length}
use Rattle.std.proofs.lemmas.Option.{same_Some}
use Rattle.plan_b.proofs.alike.last_on_page.Goals as goal

pub last_pass-pass-requires-clause-is : goal.last_pass-pass-requires-clause-is
last_pass-pass-requires-clause-is g c =
    subst (λ page. IsRecord page c.args.layout (c.args.to - 1) c.in-Ok.spot) (sym c.page.ensures.is)
    (held-record c.load_line.new.pair c.args.layout (g.C.Scratch.view c.load_line.new.scratch) c.args.half (c.args.to - 1) c.in-Ok.spot (c.in-Ok.ensures.held.loaded c.args.half (c.args.to - 1) c.in-Ok.ensures.loaded) c.in-Ok.ensures.spot)

pub returns : goal.returns
returns g c = record {
  held = (
      let view = g.C.Scratch.view in
      let before : c.last_pass-pass.result.line ≤ c.args.to - 1 = c.last_pass-pass.ensures.order in
      held-more c.load_line.new.pair c.load_line.new.pair c.args.layout c.load_line.new.halves c.set.new.self (view c.load_line.new.scratch) (view c.load_line.new.scratch) c.args.half
      c.in-Ok.ensures.held refl refl (λ h ne. refl) c.set.ensures.other
      (λ k is. let e = same_Some c.last_pass-pass.result.line k (sym c.set.ensures.held ∙ is) in
      subst (IsLoaded c.load_line.new.pair c.args.layout (view c.load_line.new.scratch) c.args.half) e
      (follows-loaded c.load_line.new.pair c.args.layout (view c.load_line.new.scratch) c.args.half (c.args.to - 1) c.last_pass-pass.result.line c.last_pass-pass.result.spot (c.in-Ok.ensures.held.loaded c.args.half (c.args.to - 1) c.in-Ok.ensures.loaded)
      (subst (λ page. Follows page c.args.layout (c.args.to - 1) c.last_pass-pass.result.line c.last_pass-pass.result.spot) c.page.ensures.is c.last_pass-pass.ensures.follows) (omega (arith, before, c.requires.high)))));
  spots = (
      spots-more c.args.layout c.load_line.new.halves c.set.new.self c.load_line.new.spots c.set-2.new.self c.args.half c.in-Ok.ensures.spots c.set.ensures.other c.set-2.ensures.other
      (λ k is. let e = same_Some c.last_pass-pass.result.line k (sym c.set.ensures.held ∙ is) in
      subst (IsSpot c.args.layout k) (sym c.set-2.ensures.set) (subst (λ n. IsSpot c.args.layout n c.last_pass-pass.result.spot) e c.last_pass-pass.ensures.follows.is.spot)));
  low = c.last_pass-pass.ensures.low;
  within = omega (arith, c.last_pass-pass.ensures.order, c.requires.order);
  value = λ lines told. (
      let view = g.C.Scratch.view in
      let before : c.last_pass-pass.result.line ≤ c.args.to - 1 = c.last_pass-pass.ensures.order in
      finds-last c.load_line.new.pair c.args.layout (view c.load_line.new.scratch) c.args.half (c.args.to - 1) c.last_pass-pass.result.line c.args.to c.last_pass-pass.result.spot c.page.result.now lines c.args.line.now c.last_pass-pass.result.is_alike
      c.in-Ok.ensures.held.layout c.in-Ok.ensures.held.records (c.in-Ok.ensures.held.loaded c.args.half (c.args.to - 1) c.in-Ok.ensures.loaded) c.page.ensures.is c.last_pass-pass.ensures.follows c.last_pass-pass.ensures.order (omega (arith, before, c.requires.order, c.requires.high)) (c.in-Ok.ensures.keeps.told ∙ told) c.last_pass-pass.ensures.misses c.last_pass-pass.ensures.tells);
  other = λ h ne. c.set.ensures.other h ne ∙ c.in-Ok.ensures.other h ne;
  keeps = (
      let k = c.in-Ok.ensures.keeps in record { told = k.told; count = k.count; faults = k.faults; scratch = k.scratch; size = k.size; needs_memory = k.needs_memory });
  cause = tt;
}

pub returns-in-Err : goal.returns-in-Err
returns-in-Err g c = record {
  held = c.in-Err.ensures.held;
  spots = c.in-Err.ensures.spots;
  low = tt;
  within = tt;
  value = tt;
  other = c.in-Err.ensures.other;
  keeps = c.in-Err.ensures.keeps;
  cause = c.in-Err.ensures.cause;
}

pub load_line-requires-clause-held : goal.load_line-requires-clause-held
load_line-requires-clause-held g c = c.requires.held

pub load_line-requires-clause-spots : goal.load_line-requires-clause-spots
load_line-requires-clause-spots g c = c.requires.spots

pub last_pass-pass-requires-clause-size : goal.last_pass-pass-requires-clause-size
last_pass-pass-requires-clause-size g c = ap length c.page.ensures.is ∙ page-length c.load_line.new.pair c.args.half c.page.ensures.pair ∙ sym c.in-Ok.ensures.held.size

pub last_pass-pass-requires-clause-before : goal.last_pass-pass-requires-clause-before
last_pass-pass-requires-clause-before g c = omega (arith, c.requires.order)

pub last_pass-pass-requires-clause-layout : goal.last_pass-pass-requires-clause-layout
last_pass-pass-requires-clause-layout g c = c.requires.held.layout

pub overflow_sub-to-2 : goal.overflow_sub-to-2
overflow_sub-to-2 g c = omega (arith, c.requires.order)

pub load_line-requires-clause-high : goal.load_line-requires-clause-high
load_line-requires-clause-high g c = omega (arith, c.requires.order, c.requires.high)
