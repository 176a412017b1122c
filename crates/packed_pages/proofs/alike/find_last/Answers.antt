use Rattle.std.proofs.Common.{◌∙◌, refl, subst, arith, ◌+◌}
use Rattle.line_store.proofs.StoreLemmas.{keeps-more, cause-more, keeps-same}
use Rattle.packed_pages.specs.Held.{seen_of}
use Rattle.line_store.specs.Store.{IsLastAlike}
use Rattle.packed_pages.proofs.Steps.{none-both}
use Rattle.packed_pages.proofs.alike.find_last.Goals as goal

pub returns-in-Err : goal.returns-in-Err
returns-in-Err g c = record {
  held = c.in-Err.ensures.held;
  marked = c.in-Err.ensures.marked;
  within = tt;
  value = tt;
  other = λ h ne. c.in-Err.ensures.other h ne ∙ c.loop-end.invariant.other h ne;
  keeps = keeps-more (seen_of c.args.layout c.args.places.now (g.C.Scratch.view c.args.scratch.now)) (seen_of c.args.layout c.loop-end.places (g.C.Scratch.view c.loop-end.scratch)) (seen_of c.args.layout c.last_between.new.places (g.C.Scratch.view c.last_between.new.scratch)) c.loop-end.invariant.keeps c.in-Err.ensures.keeps;
  cause = cause-more c.in-Err.fault (seen_of c.args.layout c.args.places.now (g.C.Scratch.view c.args.scratch.now)) (seen_of c.args.layout c.loop-end.places (g.C.Scratch.view c.loop-end.scratch)) (seen_of c.args.layout c.last_between.new.places (g.C.Scratch.view c.last_between.new.scratch)) c.loop-end.invariant.keeps c.in-Err.ensures.cause;
}

pub returns-in-Ok-Some : goal.returns-in-Ok-Some
returns-in-Ok-Some g c = record {
  held = c.in-Ok-Some.ensures.held;
  marked = c.in-Ok-Some.ensures.marked;
  within = (let h = rw c.in-Ok-Some.field-0-is at c.in-Ok-Some.ensures.within in (omega (arith, h.0), omega (arith, h.1, c.loop-end.invariant.to)));
  value = λ lines told. (
      let h = rw c.in-Ok-Some.field-0-is at (c.in-Ok-Some.ensures.value lines (c.loop-end.invariant.keeps.told ∙ told)) in
      (h.0, none-both lines c.args.line.now (c.in-Ok-Some.w + 1) c.loop-end.end c.args.to h.1 (c.loop-end.invariant.none lines told)));
  other = λ h ne. c.in-Ok-Some.ensures.other h ne ∙ c.loop-end.invariant.other h ne;
  keeps = keeps-more (seen_of c.args.layout c.args.places.now (g.C.Scratch.view c.args.scratch.now)) (seen_of c.args.layout c.loop-end.places (g.C.Scratch.view c.loop-end.scratch)) (seen_of c.args.layout c.last_between.new.places (g.C.Scratch.view c.last_between.new.scratch)) c.loop-end.invariant.keeps c.in-Ok-Some.ensures.keeps;
  cause = tt;
}

pub returns : goal.returns
returns g c = record {
  held = c.loop-end.invariant.held;
  marked = c.loop-end.invariant.marked;
  within = tt;
  value = λ lines told k low high. c.loop-end.invariant.none lines told k (omega arith) high;
  other = c.loop-end.invariant.other;
  keeps = c.loop-end.invariant.keeps;
  cause = tt;
}

pub last_between-requires-clause-held : goal.last_between-requires-clause-held
last_between-requires-clause-held g c = c.loop-end.invariant.held

pub last_between-requires-clause-marked : goal.last_between-requires-clause-marked
last_between-requires-clause-marked g c = c.loop-end.invariant.marked

pub loop-end-init : goal.loop-end-init
loop-end-init g c = record {
  held = c.requires.held;
  marked = c.requires.marked;
  to = omega arith;
  some = omega arith;
  few = omega arith;
  none = λ lines told k low high. absurd (omega arith);
  other = λ h ne. refl;
  keeps = keeps-same _;
}

pub loop-end-preserved : goal.loop-end-preserved
loop-end-preserved g c = record {
  held = c.in-Ok-None.ensures.held;
  marked = c.in-Ok-None.ensures.marked;
  to = omega (arith, c.loop-end.invariant.to);
  some = omega (arith, c.loop-end.invariant.some);
  few = omega arith;
  none = λ lines told.
      none-both lines c.args.line.now c.back_from-k.result c.loop-end.end c.args.to
      (subst (IsLastAlike lines c.args.line.now c.back_from-k.result c.loop-end.end) c.in-Ok-None.field-0-is (c.in-Ok-None.ensures.value lines (c.loop-end.invariant.keeps.told ∙ told)))
      (c.loop-end.invariant.none lines told);
  other = λ h ne. c.in-Ok-None.ensures.other h ne ∙ c.loop-end.invariant.other h ne;
  keeps = keeps-more (seen_of c.args.layout c.args.places.now (g.C.Scratch.view c.args.scratch.now)) (seen_of c.args.layout c.loop-end.places (g.C.Scratch.view c.loop-end.scratch)) (seen_of c.args.layout c.last_between.new.places (g.C.Scratch.view c.last_between.new.scratch)) c.loop-end.invariant.keeps c.in-Ok-None.ensures.keeps;
}

pub overflow_mul-most : goal.overflow_mul-most
overflow_mul-most g c = omega (arith, c.loop-end.invariant.few)

pub loop-end-smaller : goal.loop-end-smaller
loop-end-smaller g c = omega (arith, c.back_from-k.ensures.low, c.back_from-k.ensures.high)
