use Rattle.std.proofs.Common.{◌≡◌, ◌++◌, ◌∙◌, get_or, false, sym, ap, arith}
use Rattle.std.proofs.lemmas.List.{append-nil, length-append}
use Rattle.std.proofs.lemmas.List.Elements.{All-push}
use Rattle.hunk_core.specs.PlainHunk.{body_of}
use Rattle.hunk_core.specs.Turned.{LiesIn}
use Rattle.hunk_core.specs.Turned.{is_keep}
use Rattle.context_form.proofs.MergeLemmas.{nothing, taken-step, left-step, stopped}
use Rattle.std.proofs.lemmas.Result.{err_from_is_err_and}
use Rattle.context_form.proofs.merging.take_changes.Goals as goal

pub loop-place-preserved : goal.loop-place-preserved
loop-place-preserved c =
    let change : is_keep (get_or c.args.part.now c.loop-place.place nothing).mark ≡ false = sym c.if-keeps.ensures in
    record {
      low = omega arith;
      high = omega arith;
      few = rw c.in_ok-push.ensures.items (simp length-append (omega (arith, c.loop-place.invariant.few)));
      lies = λ text within parts. rw c.in_ok-push.ensures.items (All-push (λ x. LiesIn text x.span) c.loop-place.body.items (get_or c.args.part.now c.loop-place.place nothing) (c.loop-place.invariant.lies text within parts) (parts c.loop-place.place nothing c.loop-place-test.true));
      taken = λ text. rw c.in_ok-push.ensures.items (taken-step text c.loop-place.body.items c.args.part.now c.loop-place.place _ c.loop-place-test.true change (c.loop-place.invariant.taken text));
      rest = λ text. left-step text c.args.part.now c.loop-place.place c.loop-place-test.true change ∙ c.loop-place.invariant.rest text;
    }

pub returns-after-loop-place-clause-taken : goal.returns-after-loop-place-clause-taken
returns-after-loop-place-clause-taken c = λ text.
    let s = stopped text c.args.part.now c.loop-place.place (λ lt. absurd (omega arith)) in
    sym (append-nil (body_of text c.loop-place.body.items)) ∙ ap (λ ms. body_of text c.loop-place.body.items ++ ms) (sym s.0) ∙ c.loop-place.invariant.taken text

pub returns-after-loop-place-clause-rest : goal.returns-after-loop-place-clause-rest
returns-after-loop-place-clause-rest c = λ text. sym (stopped text c.args.part.now c.loop-place.place (λ lt. absurd (omega arith))).1 ∙ c.loop-place.invariant.rest text

pub returns-then-keeps-clause-taken : goal.returns-then-keeps-clause-taken
returns-then-keeps-clause-taken c = λ text.
    let s = stopped text c.args.part.now c.loop-place.place (λ lt. sym c.if-keeps.ensures) in
    sym (append-nil (body_of text c.loop-place.body.items)) ∙ ap (λ ms. body_of text c.loop-place.body.items ++ ms) (sym s.0) ∙ c.loop-place.invariant.taken text

pub returns-then-keeps-clause-rest : goal.returns-then-keeps-clause-rest
returns-then-keeps-clause-rest c = λ text. sym (stopped text c.args.part.now c.loop-place.place (λ lt. sym c.if-keeps.ensures)).1 ∙ c.loop-place.invariant.rest text

pub returns-in_err-push : goal.returns-in_err-push
returns-in_err-push c =
    let p = err_from_is_err_and c.from_residual.result c.from_residual.ensures.1 in
    rw p.1 (record { low = tt; high = tt; few = tt; lies = λ text. tt; taken = tt; rest = tt })

pub returns-after-loop-place-clause-low : goal.returns-after-loop-place-clause-low
returns-after-loop-place-clause-low c = c.loop-place.invariant.low

pub returns-after-loop-place-clause-high : goal.returns-after-loop-place-clause-high
returns-after-loop-place-clause-high c = c.loop-place.invariant.high

pub returns-after-loop-place-clause-few : goal.returns-after-loop-place-clause-few
returns-after-loop-place-clause-few c = c.loop-place.invariant.few

pub returns-after-loop-place-clause-lies : goal.returns-after-loop-place-clause-lies
returns-after-loop-place-clause-lies c = c.loop-place.invariant.lies

pub returns-then-keeps-clause-low : goal.returns-then-keeps-clause-low
returns-then-keeps-clause-low c = c.loop-place.invariant.low

pub returns-then-keeps-clause-high : goal.returns-then-keeps-clause-high
returns-then-keeps-clause-high c = c.loop-place.invariant.high

pub returns-then-keeps-clause-few : goal.returns-then-keeps-clause-few
returns-then-keeps-clause-few c = c.loop-place.invariant.few

pub returns-then-keeps-clause-lies : goal.returns-then-keeps-clause-lies
returns-then-keeps-clause-lies c = c.loop-place.invariant.lies
