use Rattle.std.proofs.Common.{◌+◌, ℕ, List, length, refl, sym, ◌∙◌, subst, arith, rules, tests}
use Rattle.std.proofs.lemmas.Iterator.Consumers.{YieldsList-turn, YieldsList-end}
use Rattle.std.proofs.lemmas.Iterator.Splits.{YieldsList-from_slice_split}
use Rattle.std.proofs.lemmas.List.{take_all, length_push}
use Rattle.std.proofs.lemmas.Result.{err_from_is_err_and}
use Rattle.std.specs.List.{slice_split}
use Rattle.series_stack.specs.Series.{is_feed}
use Rattle.series_stack.proofs.Listing.{SoFar, none_yet, series-some, series-none, line-named, line-skipped, IsBad-or}
use Rattle.series_stack.proofs.series.read_series.Goals as goal

pub loop-line-init : goal.loop-line-init
loop-line-init c = subst (λ (l : List (List ℕ)). SoFar l _) (sym c.new-names.ensures.items) none_yet

pub loop-line-preserved : goal.loop-line-preserved
loop-line-preserved c =
    let text = c.args.text.now in
    let t = YieldsList-turn (YieldsList-from_slice_split _ is_feed text (cc) (cc) (cc) (λ x r q k. search (rules, tests))) c.loop-line.yielded _ c.loop-line.yielded_by _ _ c.in-Some.line c.in-Some.is c.next.ensures.steps in
    line-skipped text (length c.loop-line.yielded) _ c.in-Some.line.now c.loop-line.names.items (length_push c.loop-line.yielded c.in-Some.line) t.0 t.1 c.loop-line.invariant
    (sym c.is_skipped.ensures ∙ c.if-not-is_skipped.false)

pub loop-line-preserved-in-Continue-1 : goal.loop-line-preserved-in-Continue-1
loop-line-preserved-in-Continue-1 c =
    let text = c.args.text.now in
    let t = YieldsList-turn (YieldsList-from_slice_split _ is_feed text (cc) (cc) (cc) (λ x r q k. search (rules, tests))) c.loop-line.yielded _ c.loop-line.yielded_by _ _ c.in-Some.line c.in-Some.is c.next.ensures.steps in
    let done = c.in_ok-add_name.ensures in
    line-named text (length c.loop-line.yielded) _ c.in-Some.line.now c.loop-line.names.items (length_push c.loop-line.yielded c.in-Some.line) t.0 t.1 c.loop-line.invariant
    c.add_name.new.names.items (sym c.is_skipped.ensures ∙ c.if-not-is_skipped.true) done.lawful done.room done.added

pub returns : goal.returns
returns c =
    let text = c.args.text.now in
    let t = YieldsList-end (YieldsList-from_slice_split _ is_feed text (cc) (cc) (cc) (λ x r q k. search (rules, tests))) c.loop-line.yielded _ c.loop-line.yielded_by _ _ c.in-None.is c.next.ensures.steps in
    record {
      names = series-some text c.loop-line.names.items
          (subst (λ (l : List (List ℕ)). SoFar c.loop-line.names.items l) (take_all (length c.loop-line.yielded) (slice_split is_feed text) (omega (arith, t.1))) c.loop-line.invariant);
      cause = tt;
    }

pub returns-in_err-add_name-clause-cause : goal.returns-in_err-add_name-clause-cause
returns-in_err-add_name-clause-cause c =
    let text = c.args.text.now in
    let t = YieldsList-turn (YieldsList-from_slice_split _ is_feed text (cc) (cc) (cc) (λ x r q k. search (rules, tests))) c.loop-line.yielded _ c.loop-line.yielded_by _ _ c.in-Some.line c.in-Some.is c.next.ensures.steps in
    let cause = IsBad-or _ _ _ _
    (λ bad. series-none text (length c.loop-line.yielded) (length c.loop-line.yielded + 1) c.in-Some.line.now c.loop-line.names.items refl t.0 t.1 c.loop-line.invariant (sym c.is_skipped.ensures ∙ c.if-not-is_skipped.true) bad)
    c.in_err-add_name.ensures.cause in
    let p = err_from_is_err_and c.from_residual.result c.from_residual.ensures.1 in
    rw (p.1, p.2) cause
