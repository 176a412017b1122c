use Rattle.std.proofs.Common.{length, refl, ◌≡◌, ◌∙◌, ◌<◌, arith, subst}
use Rattle.std.specs.Prelude.{IfSome}
use Rattle.name_choice.specs.Rank.{place_of}
use Rattle.outside.proofs.Views.{untouched_both}
use Rattle.name_choice.specs.Choice.{is_there, names_of}
use Rattle.name_choice.proofs.Chosen.{late_cause}
use Rattle.name_choice.proofs.Walked.{walk-more, named-at, names-count, place-within, walk-start, existing-end}
use Rattle.name_choice.proofs.search.best_existing.Goals as goal

pub returns-in_err-there-clause-untouched : goal.returns-in_err-there-clause-untouched
returns-in_err-there-clause-untouched g c = untouched_both c.loop-place.invariant.untouched c.in_err-there.ensures.untouched

pub loop-place-preserved : goal.loop-place-preserved
loop-place-preserved g c =
    let t = c.index-targets-place.result in
    rw c.best_with-best.ensures
    (walk-more _ _ _ is_there (λ files name. 0) (names_of c.args.targets.now) c.loop-place.place c.loop-place.best c.in_ok-there.there 0 t.name
    c.loop-place.invariant c.in_ok-there.ensures.untouched c.in_ok-there.ensures.there (λ files told. refl)
    (named-at c.args.targets.now c.loop-place.place t (omega arith) c.index-targets-place.is))

pub returns-clause-best : goal.returns-clause-best
returns-clause-best g c = λ files told. c.place_of.ensures ∙ existing-end _ _ (names_of c.args.targets.now) c.loop-place.place c.loop-place.best c.loop-place.invariant (let a : c.loop-place.place ≡ length c.args.targets.now = omega arith in a ∙ names-count c.args.targets.now) files told

pub returns-in_err-there-clause-cause : goal.returns-in_err-there-clause-cause
returns-in_err-there-clause-cause g c =
    late_cause (g.T.Tree.view c.args.tree.now) (g.T.Tree.view c.loop-place.tree) (g.T.Tree.view c.is_there.new.tree) c.from_residual.result c.loop-place.invariant.untouched c.in_err-there.ensures.cause

pub returns-clause-untouched : goal.returns-clause-untouched
returns-clause-untouched g c = c.loop-place.invariant.untouched

pub returns-clause-within : goal.returns-clause-within
returns-clause-within g c =
    let all : c.loop-place.place ≡ length c.args.targets.now = omega arith in
    rw c.place_of.ensures (subst (λ n. IfSome (place_of c.loop-place.best) (λ k. k < n)) all (place-within c.loop-place.place c.loop-place.best c.loop-place.invariant.within))

pub loop-place-init : goal.loop-place-init
loop-place-init g c = walk-start _ is_there (λ files name. 0) _
