use Rattle.std.proofs.Common.{sym, subst, ◌∙◌, refl, arith, ◌+◌, ◌≤◌, ◌<◌, ap, length}
use Rattle.line_store.specs.Store.{IsLastAlike}
use Rattle.packed_pages.specs.Held.{IsLoaded}
use Rattle.packed_pages.specs.Steps.{IsWhole, Follows}
use Rattle.packed_pages.proofs.HeldLemmas.{held-more}
use Rattle.packed_pages.proofs.Steps.{loaded-whole, follows-loaded, finds-last, place-after, last-between}
use Rattle.std.proofs.lemmas.Option.{same_Some}
use Rattle.packed_pages.proofs.Sizes.{page-small}
use Rattle.std.specs.Prelude.{IfSome}
use Rattle.packed_pages.proofs.alike.last_on_page.Goals as goal

pub last_pass-pass-requires-clause-whole : goal.last_pass-pass-requires-clause-whole
last_pass-pass-requires-clause-whole g c =
    subst (λ page. IsWhole page c.in-Ok.place) (sym c.page.ensures.is)
    (loaded-whole c.load_line.new.pair c.args.layout (g.C.Scratch.view c.load_line.new.scratch) c.args.half c.in-Ok.place (c.in-Ok.ensures.held.loaded c.args.half c.in-Ok.place c.in-Ok.ensures.place))

pub last_pass-pass-requires-clause-within : goal.last_pass-pass-requires-clause-within
last_pass-pass-requires-clause-within g c = (c.in-Ok.ensures.held.loaded c.args.half c.in-Ok.place c.in-Ok.ensures.place).on.high

pub returns : goal.returns
returns g c = record {
  held = (
      let view = g.C.Scratch.view in
      let before : c.last_pass-pass.result.place.line < c.args.to = c.last_pass-pass.ensures.before in
      let after = subst (λ q. Follows c.page.result.now c.in-Ok.place q × (q.line ≤ c.last_pass-pass.result.place.line)) (sym c.unwrap_or.ensures) (place-after c.page.result.now c.in-Ok.place c.last_pass-pass.result.place c.args.line.now c.last_pass-pass.result.alike c.last_pass-pass.ensures.follows c.last_pass-pass.ensures.last) in
      let most : c.unwrap_or.result.line ≤ c.last_pass-pass.result.place.line = after.1 in
      held-more c.load_line.new.pair c.load_line.new.pair c.args.layout c.load_line.new.places c.set.new.self (view c.load_line.new.scratch) (view c.load_line.new.scratch) c.args.half
      c.in-Ok.ensures.held refl refl (λ h ne. refl) c.set.ensures.other
      (λ x is. let e = same_Some c.unwrap_or.result x (sym c.set.ensures.held ∙ is) in
      subst (IsLoaded c.load_line.new.pair c.args.layout (view c.load_line.new.scratch) c.args.half) e
      (follows-loaded c.load_line.new.pair c.args.layout (view c.load_line.new.scratch) c.args.half c.in-Ok.place c.unwrap_or.result (c.in-Ok.ensures.held.loaded c.args.half c.in-Ok.place c.in-Ok.ensures.place)
      (subst (λ page. Follows page c.in-Ok.place c.unwrap_or.result) c.page.ensures.is after.0) (omega (arith, before, most, c.requires.high)))));
  marked = c.in-Ok.ensures.marked;
  on = omega (arith, c.last_pass-pass.ensures.follows.order, c.in-Ok.ensures.line);
  within = c.last_pass-pass.ensures.before;
  between = (
      subst (λ o. IfSome o (λ w. (c.args.k ≤ w) × (w < c.last_pass-pass.result.place.line + 1))) (sym c.number_of.ensures)
      (last-between c.page.result.now c.in-Ok.place c.args.line.now c.args.k (c.last_pass-pass.result.place.line + 1) c.last_pass-pass.result.alike c.in-Ok.ensures.line c.last_pass-pass.ensures.last));
  value = λ lines told. (
      let before : c.last_pass-pass.result.place.line < c.args.to = c.last_pass-pass.ensures.before in
      subst (IsLastAlike lines c.args.line.now c.args.k (c.last_pass-pass.result.place.line + 1)) (sym c.number_of.ensures)
      (finds-last c.load_line.new.pair c.args.layout c.load_line.new.places (g.C.Scratch.view c.load_line.new.scratch) c.args.half c.in-Ok.place c.last_pass-pass.result.place c.page.result.now lines c.args.line.now c.args.k c.last_pass-pass.result.alike
      c.in-Ok.ensures.held c.in-Ok.ensures.place c.page.ensures.is c.in-Ok.ensures.line
      c.last_pass-pass.ensures.follows (omega arith)
      (c.in-Ok.ensures.keeps.told ∙ told)
      c.last_pass-pass.ensures.last));
  other = λ h ne. c.set.ensures.other h ne ∙ c.in-Ok.ensures.other h ne;
  keeps = (let k = c.in-Ok.ensures.keeps in record { told = k.told; count = k.count; faults = k.faults; scratch = k.scratch; size = k.size; needs_memory = k.needs_memory });
  cause = tt;
}

pub returns-in-Err : goal.returns-in-Err
returns-in-Err g c = record {
  held = c.in-Err.ensures.held;
  marked = c.in-Err.ensures.marked;
  on = tt;
  within = tt;
  between = tt;
  value = tt;
  other = c.in-Err.ensures.other;
  keeps = c.in-Err.ensures.keeps;
  cause = c.in-Err.ensures.cause;
}

pub load_line-requires-clause-held : goal.load_line-requires-clause-held
load_line-requires-clause-held g c = c.requires.held

pub load_line-requires-clause-marked : goal.load_line-requires-clause-marked
load_line-requires-clause-marked g c = c.requires.marked

pub load_line-requires-clause-low : goal.load_line-requires-clause-low
load_line-requires-clause-low g c = c.requires.low

pub last_pass-pass-requires-clause-small : goal.last_pass-pass-requires-clause-small
last_pass-pass-requires-clause-small g c = omega (arith, ap length c.page.ensures.is, page-small c.load_line.new.pair c.args.half c.page.ensures.pair)

pub last_pass-pass-requires-clause-before : goal.last_pass-pass-requires-clause-before
last_pass-pass-requires-clause-before g c = omega (arith, c.in-Ok.ensures.line, c.requires.order)

pub load_line-requires-clause-high : goal.load_line-requires-clause-high
load_line-requires-clause-high g c = omega (arith, c.requires.order, c.requires.high)
