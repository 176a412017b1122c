use Rattle.std.proofs.Common.{◌<◌, ℕ, List, length, is_some, sym, ◌∙◌, ap, subst}
use Rattle.std.proofs.lemmas.Result.{err_from_is_err_and}
use Rattle.series_stack.specs.Saves.{entries_of}
use Rattle.series_stack.proofs.Entries.{shorter}
use Rattle.series_stack.proofs.Listing.{IsBad-or}
use Rattle.series_stack.proofs.Saving.{some_and, some_left, front-same, front-none, is_some-none, saved-end}
use Rattle.series_stack.proofs.save.check_save.Goals as goal

pub loop-rest-preserved : goal.loop-rest-preserved
loop-rest-preserved c =
    let rest = c.loop-rest.rest.now in
    let some = some_and _ _ c.in_ok-rest.ensures.first in
    c.loop-rest.invariant
    ∙ front-same rest (some_left rest (sym c.is_empty.ensures ∙ c.loop-rest-test.true)) some.0 some.1
    ∙ ap (λ (l : List ℕ). is_some (entries_of l)) some.2

pub loop-rest-smaller : goal.loop-rest-smaller
loop-rest-smaller c =
    let rest = c.loop-rest.rest.now in
    let some = some_and _ _ c.in_ok-rest.ensures.first in
    subst (λ (l : List ℕ). length l < length rest) some.2 (shorter rest some.0 some.1)

pub returns : goal.returns
returns c = record {
  save = saved-end c.args.text.now c.loop-rest.rest.now c.loop-rest.invariant (sym c.is_empty.ensures ∙ c.loop-rest-test.false);
  cause = tt;
}

pub returns-in_err-rest-clause-cause : goal.returns-in_err-rest-clause-cause
returns-in_err-rest-clause-cause c =
    let rest = c.loop-rest.rest.now in
    let cause = IsBad-or _ _ _ _
    (λ none. is_some-none (entries_of c.args.text.now) (c.loop-rest.invariant ∙ ap is_some (front-none rest (some_left rest (sym c.is_empty.ensures ∙ c.loop-rest-test.true)) none)))
    c.in_err-rest.ensures.cause in
    let p = err_from_is_err_and c.from_residual.result c.from_residual.ensures.1 in
    rw (p.1, p.2) cause
