use Rattle.std.proofs.Common.{◌∙◌, refl, subst, ◌+◌, arith}
use Rattle.line_store.proofs.StoreLemmas.{keeps-more, cause-more, keeps-same}
use Rattle.plan_b.specs.Held.{seen_of}
use Rattle.page_pair.specs.Alike.{FindsFirst}
use Rattle.plan_b.proofs.Reached.{none-both}
use Rattle.plan_b.proofs.alike.find_first.Goals as goal

pub returns-in-Err : goal.returns-in-Err
returns-in-Err g c = record {
  held = c.in-Err.ensures.held;
  spots = c.in-Err.ensures.spots;
  within = tt;
  value = tt;
  other = λ h ne. c.in-Err.ensures.other h ne ∙ c.loop-k.invariant.other h ne;
  keeps = keeps-more (seen_of c.args.layout c.args.halves.now (g.C.Scratch.view c.args.scratch.now)) (seen_of c.args.layout c.loop-k.halves (g.C.Scratch.view c.loop-k.scratch)) (seen_of c.args.layout c.first_on_page.new.halves (g.C.Scratch.view c.first_on_page.new.scratch)) c.loop-k.invariant.keeps c.in-Err.ensures.keeps;
  cause = cause-more c.in-Err.fault (seen_of c.args.layout c.args.halves.now (g.C.Scratch.view c.args.scratch.now)) (seen_of c.args.layout c.loop-k.halves (g.C.Scratch.view c.loop-k.scratch)) (seen_of c.args.layout c.first_on_page.new.halves (g.C.Scratch.view c.first_on_page.new.scratch)) c.loop-k.invariant.keeps c.in-Err.ensures.cause;
}

pub returns-then-pass-clause-held : goal.returns-then-pass-clause-held
returns-then-pass-clause-held g c = c.in-Ok.ensures.held

pub returns-then-pass-clause-spots : goal.returns-then-pass-clause-spots
returns-then-pass-clause-spots g c = c.in-Ok.ensures.spots

pub returns-then-pass-clause-other : goal.returns-then-pass-clause-other
returns-then-pass-clause-other g c h ne = c.in-Ok.ensures.other h ne ∙ c.loop-k.invariant.other h ne

pub returns-then-pass-clause-keeps : goal.returns-then-pass-clause-keeps
returns-then-pass-clause-keeps g c = keeps-more (seen_of c.args.layout c.args.halves.now (g.C.Scratch.view c.args.scratch.now)) (seen_of c.args.layout c.loop-k.halves (g.C.Scratch.view c.loop-k.scratch)) (seen_of c.args.layout c.first_on_page.new.halves (g.C.Scratch.view c.first_on_page.new.scratch)) c.loop-k.invariant.keeps c.in-Ok.ensures.keeps

pub returns-then-pass-clause-cause : goal.returns-then-pass-clause-cause
returns-then-pass-clause-cause g c = tt

pub returns : goal.returns
returns g c = record {
  held = c.loop-k.invariant.held;
  spots = c.loop-k.invariant.spots;
  within = tt;
  value = λ lines told k low high. c.loop-k.invariant.none lines told k low (omega arith);
  other = c.loop-k.invariant.other;
  keeps = c.loop-k.invariant.keeps;
  cause = tt;
}

pub first_on_page-requires-clause-held : goal.first_on_page-requires-clause-held
first_on_page-requires-clause-held g c = c.loop-k.invariant.held

pub first_on_page-requires-clause-spots : goal.first_on_page-requires-clause-spots
first_on_page-requires-clause-spots g c = c.loop-k.invariant.spots

pub loop-k-init : goal.loop-k-init
loop-k-init g c = record {
  held = c.requires.held;
  spots = c.requires.spots;
  from = omega arith;
  none = λ lines told k low high. absurd (omega arith);
  other = λ h ne. refl;
  keeps = keeps-same _;
}

pub loop-k-preserved : goal.loop-k-preserved
loop-k-preserved g c = record {
  held = c.in-Ok.ensures.held;
  spots = c.in-Ok.ensures.spots;
  from = omega (arith, c.in-Ok.ensures.on);
  none = λ lines told.
      none-both lines c.args.line.now c.args.from c.loop-k.k (c.in-Ok.pass.line + 1) (c.loop-k.invariant.none lines told)
      (subst (FindsFirst lines c.args.line.now c.loop-k.k c.in-Ok.pass.line) c.if-pass.false (c.in-Ok.ensures.value lines (c.loop-k.invariant.keeps.told ∙ told)));
  other = λ h ne. c.in-Ok.ensures.other h ne ∙ c.loop-k.invariant.other h ne;
  keeps = keeps-more (seen_of c.args.layout c.args.halves.now (g.C.Scratch.view c.args.scratch.now)) (seen_of c.args.layout c.loop-k.halves (g.C.Scratch.view c.loop-k.scratch)) (seen_of c.args.layout c.first_on_page.new.halves (g.C.Scratch.view c.first_on_page.new.scratch)) c.loop-k.invariant.keeps c.in-Ok.ensures.keeps;
}

pub overflow_add-k : goal.overflow_add-k
overflow_add-k g c = omega (arith, c.in-Ok.ensures.within, c.ranges.to.fits)

pub returns-then-pass-clause-within : goal.returns-then-pass-clause-within
returns-then-pass-clause-within g c = (omega (arith, c.loop-k.invariant.from, c.in-Ok.ensures.on), c.in-Ok.ensures.within)

pub loop-k-smaller : goal.loop-k-smaller
loop-k-smaller g c = omega (arith, c.loop-k-test.true, c.in-Ok.ensures.on)
