use Rattle.std.proofs.Common.{◌||◌, get_or, sym, ◌∙◌, ap, arith}
use Rattle.std.proofs.lemmas.List.{take_all}
use Rattle.std.proofs.lemmas.List.Folds.{list_any_at, list_any_more}
use Rattle.std.specs.List.{list_any}
use Rattle.hunk_core.specs.declared.Verdict.TheVariants.{Untried}
use Rattle.hunk_apply.specs.Session.{is_failed}
use Rattle.apply_outcome.proofs.rejects.some_failed.Goals as goal

pub returns-then-is_failed : goal.returns-then-is_failed
returns-then-is_failed c = sym (list_any_at is_failed c.args.verdicts.now c.loop-i.i Untried c.loop-i-test.true (sym c.is_failed.ensures ∙ c.if-is_failed.true))

pub loop-i-preserved : goal.loop-i-preserved
loop-i-preserved c =
    let vs = c.args.verdicts.now in
    list_any_more is_failed vs c.loop-i.i Untried c.loop-i-test.true ∙ ap (λ b. b || is_failed (get_or vs c.loop-i.i Untried)) c.loop-i.invariant ∙ sym c.is_failed.ensures ∙ c.if-is_failed.false

pub returns : goal.returns
returns c = sym (ap (list_any is_failed) (sym (take_all c.loop-i.i c.args.verdicts.now (omega arith))) ∙ c.loop-i.invariant)

pub bounds-verdicts-i : goal.bounds-verdicts-i
bounds-verdicts-i c = c.loop-i-test.true
