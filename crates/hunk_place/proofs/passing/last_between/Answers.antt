use Rattle.std.proofs.Common.{◌+◌, ◌<◌, ◌≤◌, ℕ, Bool, sym, subst, ◌∙◌, arith}
use Rattle.std.specs.Prelude.{IfSome}
use Rattle.line_store.proofs.StoreLemmas.{keeps-more}
use Rattle.hunk_place.specs.Passing.{NonePasses, SkipsBack}
use Rattle.hunk_place.specs.Placing.{fits}
use Rattle.hunk_place.specs.Taken.{taken_lines}
use Rattle.hunk_place.proofs.PassLemmas.{none-join, step-down}
use Rattle.std.proofs.lemmas.Result.{IfOk-from_err}
use Rattle.hunk_place.proofs.NumberLemmas.{cause-on, lies-in, wider-high}
use Rattle.hunk_place.proofs.passing.last_between.Goals as goal

pub returns-then-branch-clause-value : goal.returns-then-branch-clause-value
returns-then-branch-clause-value g c lines told back last =
    let f : ℕ → Bool = fits lines (taken_lines c.args.pattern.now.text.now c.args.pattern.now.side c.args.pattern.now.hunk.now) c.args.pattern.now.loose c.args.pattern.now.front back in
    let here = c.loop-end.invariant.keeps.told ∙ told in
    let skip : NonePasses f (c.in-Some.w + 1) c.loop-end.end = subst (SkipsBack f c.args.from c.loop-end.end) c.in-Some.is (c.in_ok-w.ensures.value lines here back last) in
    (sym (c.in_ok-fits_at-in-Some.ensures.value lines (c.in_ok-w.ensures.keeps.told ∙ here) back last) ∙ c.if-branch.true, none-join f (c.in-Some.w + 1) c.loop-end.end c.args.to skip (c.loop-end.invariant.none lines told back last))

pub loop-end-preserved : goal.loop-end-preserved
loop-end-preserved g c =
    let within : (c.args.from ≤ c.in-Some.w) × (c.in-Some.w < c.loop-end.end) = subst (λ o. IfSome o (λ w. (c.args.from ≤ w) × (w < c.loop-end.end))) c.in-Some.is c.in_ok-w.ensures.within in
    record {
      high = omega (arith, c.loop-end.invariant.high, within.1);
      keeps = keeps-more _ _ _ (keeps-more _ _ _ c.loop-end.invariant.keeps c.in_ok-w.ensures.keeps) c.in_ok-fits_at-in-Some.ensures.keeps;
      none = λ lines told back last.
          let f : ℕ → Bool = fits lines (taken_lines c.args.pattern.now.text.now c.args.pattern.now.side c.args.pattern.now.hunk.now) c.args.pattern.now.loose c.args.pattern.now.front back in
          let here = c.loop-end.invariant.keeps.told ∙ told in
          let skip : NonePasses f (c.in-Some.w + 1) c.loop-end.end = subst (SkipsBack f c.args.from c.loop-end.end) c.in-Some.is (c.in_ok-w.ensures.value lines here back last) in
          step-down f c.in-Some.w c.loop-end.end c.args.to skip (c.loop-end.invariant.none lines told back last)
          (sym (c.in_ok-fits_at-in-Some.ensures.value lines (c.in_ok-w.ensures.keeps.told ∙ here) back last) ∙ c.if-branch.false);
    }

pub returns-in-None-clause-value : goal.returns-in-None-clause-value
returns-in-None-clause-value g c lines told back last =
    let f : ℕ → Bool = fits lines (taken_lines c.args.pattern.now.text.now c.args.pattern.now.side c.args.pattern.now.hunk.now) c.args.pattern.now.loose c.args.pattern.now.front back in
    none-join f c.args.from c.loop-end.end c.args.to
    (subst (SkipsBack f c.args.from c.loop-end.end) c.in-None.is (c.in_ok-w.ensures.value lines (c.loop-end.invariant.keeps.told ∙ told) back last))
    (c.loop-end.invariant.none lines told back last)

pub returns-in_err-w-clause-value : goal.returns-in_err-w-clause-value
returns-in_err-w-clause-value g c = IfOk-from_err c.from_residual.result _ c.from_residual.ensures.0

pub returns-in_err-w-clause-within : goal.returns-in_err-w-clause-within
returns-in_err-w-clause-within g c = IfOk-from_err c.from_residual.result _ c.from_residual.ensures.0

pub returns-in_err-w-clause-keeps : goal.returns-in_err-w-clause-keeps
returns-in_err-w-clause-keeps g c = keeps-more _ _ _ c.loop-end.invariant.keeps c.in_err-w.ensures.keeps

pub returns-in_err-fits_at-in-Some-clause-value : goal.returns-in_err-fits_at-in-Some-clause-value
returns-in_err-fits_at-in-Some-clause-value g c = IfOk-from_err c.from_residual-in_err-fits_at-in-Some.result _ c.from_residual-in_err-fits_at-in-Some.ensures.0

pub returns-in_err-fits_at-in-Some-clause-within : goal.returns-in_err-fits_at-in-Some-clause-within
returns-in_err-fits_at-in-Some-clause-within g c = IfOk-from_err c.from_residual-in_err-fits_at-in-Some.result _ c.from_residual-in_err-fits_at-in-Some.ensures.0

pub returns-in_err-fits_at-in-Some-clause-keeps : goal.returns-in_err-fits_at-in-Some-clause-keeps
returns-in_err-fits_at-in-Some-clause-keeps g c = keeps-more _ _ _ (keeps-more _ _ _ c.loop-end.invariant.keeps c.in_ok-w.ensures.keeps) c.in_err-fits_at-in-Some.ensures.keeps

pub returns-clause-within : goal.returns-clause-within
returns-clause-within g c = tt

pub returns-clause-keeps : goal.returns-clause-keeps
returns-clause-keeps g c = c.loop-end.invariant.keeps

pub returns-clause-cause : goal.returns-clause-cause
returns-clause-cause g c = tt

pub returns-in-None-clause-within : goal.returns-in-None-clause-within
returns-in-None-clause-within g c = tt

pub returns-in-None-clause-keeps : goal.returns-in-None-clause-keeps
returns-in-None-clause-keeps g c = keeps-more _ _ _ c.loop-end.invariant.keeps c.in_ok-w.ensures.keeps

pub returns-in-None-clause-cause : goal.returns-in-None-clause-cause
returns-in-None-clause-cause g c = tt

pub returns-then-branch-clause-keeps : goal.returns-then-branch-clause-keeps
returns-then-branch-clause-keeps g c = keeps-more _ _ _ (keeps-more _ _ _ c.loop-end.invariant.keeps c.in_ok-w.ensures.keeps) c.in_ok-fits_at-in-Some.ensures.keeps

pub returns-then-branch-clause-cause : goal.returns-then-branch-clause-cause
returns-then-branch-clause-cause g c = tt

pub returns-in_err-w-clause-cause : goal.returns-in_err-w-clause-cause
returns-in_err-w-clause-cause g c = cause-on _ _ _ _ _ c.from_residual.ensures.1 c.loop-end.invariant.keeps c.in_err-w.ensures.cause

pub returns-in_err-fits_at-in-Some-clause-cause : goal.returns-in_err-fits_at-in-Some-clause-cause
returns-in_err-fits_at-in-Some-clause-cause g c = cause-on _ _ _ _ _ c.from_residual-in_err-fits_at-in-Some.ensures.1 (keeps-more _ _ _ c.loop-end.invariant.keeps c.in_ok-w.ensures.keeps) c.in_err-fits_at-in-Some.ensures.cause

pub fits_at-requires-clause-within : goal.fits_at-requires-clause-within
fits_at-requires-clause-within g c some = lies-in c.args.from c.in-Some.w c.args.to c.args.pattern.now.front c.args.pattern.now.last (g.S.LineStore.seen c.args.store.now).count _ c.requires.first (wider-high c.args.from c.in-Some.w c.loop-end.end c.args.to c.loop-end.invariant.high (subst (λ o. IfSome o (λ w. (c.args.from ≤ w) × (w < c.loop-end.end))) c.in-Some.is c.in_ok-w.ensures.within)) (c.requires.last some) (keeps-more _ _ _ c.loop-end.invariant.keeps c.in_ok-w.ensures.keeps).count

pub returns-then-branch-clause-within : goal.returns-then-branch-clause-within
returns-then-branch-clause-within g c = wider-high c.args.from c.in-Some.w c.loop-end.end c.args.to c.loop-end.invariant.high (subst (λ o. IfSome o (λ w. (c.args.from ≤ w) × (w < c.loop-end.end))) c.in-Some.is c.in_ok-w.ensures.within)
