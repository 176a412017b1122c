use Rattle.std.proofs.Common.{◌≡◌, false, None, sym, ◌∙◌, ap, refl}
use Rattle.std.proofs.lemmas.Bool.{false≢true}
use Rattle.say_text.specs.declared.standing.Standing.{Standing}
use Rattle.apply_task.specs.TaskView.{plain_task}
use Rattle.apply_start.specs.declared.fitting.Purpose.{Purpose}
use Rattle.apply_start.specs.declared.fitting.Purpose.TheVariants.{Makes, MakesEmpty, Clears, RemovesEmpty, Changes}
use Rattle.apply_start.specs.Fitting.{misfit, is_asked}
use Rattle.apply_start.specs.Start.{standing}
use Rattle.apply_start.proofs.fitting.unfit.Goals as goal

-- what isn't asked fits
fits : (p : Purpose) (s : Standing) → is_asked p ≡ false → None ≡ misfit p s
fits Makes s un = absurd (false≢true (sym un))
fits MakesEmpty s un = absurd (false≢true (sym un))
fits Clears s un = absurd (false≢true (sym un))
fits RemovesEmpty s un = absurd (false≢true (sym un))
fits Changes s un = refl

pub returns-then-not-is_asked-clause-unfit : goal.returns-then-not-is_asked-clause-unfit
returns-then-not-is_asked-clause-unfit g c = λ f told.
    let t = plain_task c.args.task.now in
    let s = standing t f c.args.place in
    fits c.purpose_of-purpose.result s (sym c.if-not-is_asked.ensures) ∙ ap (λ (p : Purpose). misfit p s) c.purpose_of-purpose.ensures

pub returns-clause-unfit : goal.returns-clause-unfit
returns-clause-unfit g c = λ f told.
    let t = plain_task c.args.task.now in
    c.misfit.ensures
    ∙ ap (λ (s : Standing). misfit c.purpose_of-purpose.result s) (c.in_ok-standing.ensures.standing f told)
    ∙ ap (λ (p : Purpose). misfit p (standing t f c.args.place)) c.purpose_of-purpose.ensures

pub standing-requires-clause-task : goal.standing-requires-clause-task
standing-requires-clause-task g c = c.requires.task

pub standing-requires-clause-within : goal.standing-requires-clause-within
standing-requires-clause-within g c = c.requires.within
