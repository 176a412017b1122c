use Rattle.std.proofs.Common.{◌∙◌, refl, subst, arith}
use Rattle.line_store.proofs.StoreLemmas.{keeps-more, cause-more, keeps-same}
use Rattle.plan_b.specs.Held.{seen_of}
use Rattle.plan_b.specs.Spots.{FindsLast}
use Rattle.plan_b.proofs.Reached.{none-both}
use Rattle.plan_b.proofs.alike.find_last.Goals as goal

pub returns-in-Err : goal.returns-in-Err
returns-in-Err g c = record {
  held = c.in-Err.ensures.held;
  spots = c.in-Err.ensures.spots;
  within = tt;
  value = tt;
  other = λ h ne. c.in-Err.ensures.other h ne ∙ c.loop-end.invariant.other h ne;
  keeps = keeps-more (seen_of c.args.layout c.args.halves.now (g.C.Scratch.view c.args.scratch.now)) (seen_of c.args.layout c.loop-end.halves (g.C.Scratch.view c.loop-end.scratch)) (seen_of c.args.layout c.last_on_page.new.halves (g.C.Scratch.view c.last_on_page.new.scratch)) c.loop-end.invariant.keeps c.in-Err.ensures.keeps;
  cause = cause-more c.in-Err.fault (seen_of c.args.layout c.args.halves.now (g.C.Scratch.view c.args.scratch.now)) (seen_of c.args.layout c.loop-end.halves (g.C.Scratch.view c.loop-end.scratch)) (seen_of c.args.layout c.last_on_page.new.halves (g.C.Scratch.view c.last_on_page.new.scratch)) c.loop-end.invariant.keeps c.in-Err.ensures.cause;
}

pub returns-then-pass-clause-held : goal.returns-then-pass-clause-held
returns-then-pass-clause-held g c = c.in-Ok.ensures.held

pub returns-then-pass-clause-spots : goal.returns-then-pass-clause-spots
returns-then-pass-clause-spots g c = c.in-Ok.ensures.spots

pub returns-then-pass-clause-other : goal.returns-then-pass-clause-other
returns-then-pass-clause-other g c h ne = c.in-Ok.ensures.other h ne ∙ c.loop-end.invariant.other h ne

pub returns-then-pass-clause-keeps : goal.returns-then-pass-clause-keeps
returns-then-pass-clause-keeps g c = keeps-more (seen_of c.args.layout c.args.halves.now (g.C.Scratch.view c.args.scratch.now)) (seen_of c.args.layout c.loop-end.halves (g.C.Scratch.view c.loop-end.scratch)) (seen_of c.args.layout c.last_on_page.new.halves (g.C.Scratch.view c.last_on_page.new.scratch)) c.loop-end.invariant.keeps c.in-Ok.ensures.keeps

pub returns-then-pass-clause-cause : goal.returns-then-pass-clause-cause
returns-then-pass-clause-cause g c = tt

pub returns : goal.returns
returns g c = record {
  held = c.loop-end.invariant.held;
  spots = c.loop-end.invariant.spots;
  within = tt;
  value = λ lines told k low high. c.loop-end.invariant.none lines told k (omega arith) high;
  other = c.loop-end.invariant.other;
  keeps = c.loop-end.invariant.keeps;
  cause = tt;
}

pub last_on_page-requires-clause-held : goal.last_on_page-requires-clause-held
last_on_page-requires-clause-held g c = c.loop-end.invariant.held

pub last_on_page-requires-clause-spots : goal.last_on_page-requires-clause-spots
last_on_page-requires-clause-spots g c = c.loop-end.invariant.spots

pub loop-end-init : goal.loop-end-init
loop-end-init g c = record {
  held = c.requires.held;
  spots = c.requires.spots;
  to = omega arith;
  none = λ lines told k low high. absurd (omega arith);
  other = λ h ne. refl;
  keeps = keeps-same _;
}

pub loop-end-preserved : goal.loop-end-preserved
loop-end-preserved g c = record {
  held = c.in-Ok.ensures.held;
  spots = c.in-Ok.ensures.spots;
  to = omega (arith, c.in-Ok.ensures.within, c.loop-end.invariant.to);
  none = λ lines told.
      none-both lines c.args.line.now c.in-Ok.pass.line c.loop-end.end c.args.to
      (subst (FindsLast lines c.args.line.now c.loop-end.end c.in-Ok.pass.line) c.if-pass.false (c.in-Ok.ensures.value lines (c.loop-end.invariant.keeps.told ∙ told)))
      (c.loop-end.invariant.none lines told);
  other = λ h ne. c.in-Ok.ensures.other h ne ∙ c.loop-end.invariant.other h ne;
  keeps = keeps-more (seen_of c.args.layout c.args.halves.now (g.C.Scratch.view c.args.scratch.now)) (seen_of c.args.layout c.loop-end.halves (g.C.Scratch.view c.loop-end.scratch)) (seen_of c.args.layout c.last_on_page.new.halves (g.C.Scratch.view c.last_on_page.new.scratch)) c.loop-end.invariant.keeps c.in-Ok.ensures.keeps;
}

pub returns-then-pass-clause-within : goal.returns-then-pass-clause-within
returns-then-pass-clause-within g c = (c.in-Ok.ensures.low, omega (arith, c.in-Ok.ensures.within, c.loop-end.invariant.to))

pub loop-end-smaller : goal.loop-end-smaller
loop-end-smaller g c = omega (arith, c.in-Ok.ensures.within, c.in-Ok.ensures.low)
