use Rattle.std.proofs.Common.{length, ◌≡◌, ◌∙◌, ◌<◌, arith}
use Rattle.outside.proofs.Views.{untouched_both}
use Rattle.name_choice.specs.Choice.{names_of}
use Rattle.name_choice.proofs.First.{sought-start, sought-more, first-here, first-none}
use Rattle.name_choice.proofs.Chosen.{late_cause}
use Rattle.name_choice.proofs.Walked.{named-at, names-count}
use Rattle.name_choice.proofs.search.first_existing.Goals as goal

pub loop-place-init : goal.loop-place-init
loop-place-init g c = sought-start _ _

pub returns-in_err-there-clause-untouched : goal.returns-in_err-there-clause-untouched
returns-in_err-there-clause-untouched g c = untouched_both c.loop-place.invariant.untouched c.in_err-there.ensures.untouched

pub returns-then-there-clause-untouched : goal.returns-then-there-clause-untouched
returns-then-there-clause-untouched g c = untouched_both c.loop-place.invariant.untouched c.in_ok-there.ensures.untouched

pub returns-then-there-clause-first : goal.returns-then-there-clause-first
returns-then-there-clause-first g c = λ files told.
    let t = c.index-targets-place.result in
    let within : c.loop-place.place < length (names_of c.args.targets.now) = (let e = names-count c.args.targets.now in omega (arith, e)) in
    first-here _ _ (names_of c.args.targets.now) c.loop-place.place c.in_ok-there.there t.name c.loop-place.invariant c.in_ok-there.ensures.there c.if-there.true
    (named-at c.args.targets.now c.loop-place.place t (omega arith) c.index-targets-place.is) within files told

pub loop-place-preserved : goal.loop-place-preserved
loop-place-preserved g c =
    let t = c.index-targets-place.result in
    sought-more _ _ _ (names_of c.args.targets.now) c.loop-place.place c.in_ok-there.there t.name c.loop-place.invariant c.in_ok-there.ensures.untouched c.in_ok-there.ensures.there c.if-there.false
    (named-at c.args.targets.now c.loop-place.place t (omega arith) c.index-targets-place.is)

pub returns-clause-first : goal.returns-clause-first
returns-clause-first g c = λ files told. first-none _ _ (names_of c.args.targets.now) c.loop-place.place c.loop-place.invariant (let a : c.loop-place.place ≡ length c.args.targets.now = omega arith in a ∙ names-count c.args.targets.now) files told

pub returns-in_err-there-clause-cause : goal.returns-in_err-there-clause-cause
returns-in_err-there-clause-cause g c =
    late_cause (g.T.Tree.view c.args.tree.now) (g.T.Tree.view c.loop-place.tree) (g.T.Tree.view c.is_there.new.tree) c.from_residual.result c.loop-place.invariant.untouched c.in_err-there.ensures.cause
