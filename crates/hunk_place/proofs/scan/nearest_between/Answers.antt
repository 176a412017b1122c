use Rattle.std.proofs.Common.{◌<◌, ◌≤◌, ℕ, Bool, sym, subst, ◌∙◌}
use Rattle.std.specs.Prelude.{IfSome}
use Rattle.hunk_place.specs.Passing.{IsLastPass, IsNearest}
use Rattle.hunk_place.specs.Placing.{fits}
use Rattle.hunk_place.specs.Taken.{taken_lines}
use Rattle.hunk_place.proofs.PassLemmas.{window}
use Rattle.std.proofs.lemmas.Result.{IfOk-from_err}
use Rattle.line_store.proofs.StoreLemmas.{keeps-more}
use Rattle.hunk_place.proofs.NumberLemmas.{from-centre, to-centre, nearer-within, top-room, end-room, cause-on, window-of}
use Rattle.hunk_place.proofs.scan.nearest_between.Goals as goal

pub returns-clause-value : goal.returns-clause-value
returns-clause-value g c lines told back last scanned =
    let f : ℕ → Bool = fits lines (taken_lines c.args.pattern.now.text.now c.args.pattern.now.side c.args.pattern.now.hunk.now) c.args.pattern.now.loose c.args.pattern.now.front back in
    let w = window-of c.args.low c.args.high c.args.centre c.args.from c.args.to c.min-top.result c.max-bottom.result c.saturating_sub.result c.requires.order c.min-top.ensures c.saturating_sub.ensures c.max-bottom.ensures in
    subst (IsNearest f c.args.low c.args.high c.args.centre c.args.to) (sym c.nearer.ensures)
    (window f c.args.low c.args.high c.args.centre c.args.from c.args.to c.min-top.result c.max-bottom.result c.in_ok-above.above c.in_ok-below.below
    c.requires.in_low c.requires.in_high c.requires.near w.0 w.1 w.2 w.3 w.4 w.5
    c.in_ok-above.ensures.within
    (subst (λ e. IfSome c.in_ok-below.below (λ w. (c.max-bottom.result ≤ w) × (w < e))) c.saturating_sub-2.ensures c.in_ok-below.ensures.within)
    (c.in_ok-above.ensures.value lines told back last)
    (subst (λ e. IsLastPass f c.max-bottom.result e c.in_ok-below.below) c.saturating_sub-2.ensures (c.in_ok-below.ensures.value lines (c.in_ok-above.ensures.keeps.told ∙ told) back last))
    scanned)

pub returns-in_err-above-clause-value : goal.returns-in_err-above-clause-value
returns-in_err-above-clause-value g c = IfOk-from_err c.from_residual.result _ c.from_residual.ensures.0

pub returns-in_err-above-clause-within : goal.returns-in_err-above-clause-within
returns-in_err-above-clause-within g c = IfOk-from_err c.from_residual.result _ c.from_residual.ensures.0

pub returns-in_err-above-clause-keeps : goal.returns-in_err-above-clause-keeps
returns-in_err-above-clause-keeps g c = c.in_err-above.ensures.keeps

pub returns-in_err-below-clause-value : goal.returns-in_err-below-clause-value
returns-in_err-below-clause-value g c = IfOk-from_err c.from_residual-in_err-below.result _ c.from_residual-in_err-below.ensures.0

pub returns-in_err-below-clause-within : goal.returns-in_err-below-clause-within
returns-in_err-below-clause-within g c = IfOk-from_err c.from_residual-in_err-below.result _ c.from_residual-in_err-below.ensures.0

pub returns-in_err-below-clause-keeps : goal.returns-in_err-below-clause-keeps
returns-in_err-below-clause-keeps g c = keeps-more _ _ _ c.in_ok-above.ensures.keeps c.in_err-below.ensures.keeps

pub returns-clause-keeps : goal.returns-clause-keeps
returns-clause-keeps g c = keeps-more _ _ _ c.in_ok-above.ensures.keeps c.in_ok-below.ensures.keeps

pub returns-clause-cause : goal.returns-clause-cause
returns-clause-cause g c = tt

pub last_between-requires-clause-pattern : goal.last_between-requires-clause-pattern
last_between-requires-clause-pattern g c = c.requires.pattern

pub first_between-requires-clause-pattern : goal.first_between-requires-clause-pattern
first_between-requires-clause-pattern g c = c.requires.pattern

pub returns-clause-within : goal.returns-clause-within
returns-clause-within g c =
    subst (λ o. IfSome o (λ w. (c.args.low ≤ w) × (w ≤ c.args.high))) (sym c.nearer.ensures)
    (nearer-within c.args.low c.args.high c.args.centre c.args.from c.args.to c.min-top.result c.max-bottom.result c.saturating_sub-2.result c.saturating_sub.result c.in_ok-above.above c.in_ok-below.below c.requires.in_low c.requires.in_high c.min-top.ensures c.max-bottom.ensures c.saturating_sub-2.ensures c.in_ok-above.ensures.within c.in_ok-below.ensures.within)

pub nearer-requires-clause-above : goal.nearer-requires-clause-above
nearer-requires-clause-above g c = from-centre c.args.centre c.args.from c.min-top.result c.in_ok-above.above c.in_ok-above.ensures.within

pub nearer-requires-clause-below : goal.nearer-requires-clause-below
nearer-requires-clause-below g c = to-centre c.args.centre c.args.from c.max-bottom.result c.saturating_sub-2.result c.in_ok-below.below c.saturating_sub-2.ensures c.in_ok-below.ensures.within

pub first_between-requires-clause-last : goal.first_between-requires-clause-last
first_between-requires-clause-last g c some = top-room c.args.high c.args.centre c.args.to c.min-top.result c.args.pattern.now.last _ c.min-top.ensures (c.requires.last some)

pub last_between-requires-clause-last : goal.last_between-requires-clause-last
last_between-requires-clause-last g c some = end-room c.args.high c.args.centre c.args.from c.saturating_sub-2.result c.args.pattern.now.last (g.S.LineStore.seen c.args.store.now).count _ c.requires.in_high c.saturating_sub-2.ensures c.in_ok-above.ensures.keeps.count (c.requires.last some)

pub returns-in_err-below-clause-cause : goal.returns-in_err-below-clause-cause
returns-in_err-below-clause-cause g c = cause-on _ _ _ _ _ c.from_residual-in_err-below.ensures.1 c.in_ok-above.ensures.keeps c.in_err-below.ensures.cause
