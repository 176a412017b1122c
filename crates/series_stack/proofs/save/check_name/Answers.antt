use Rattle.std.proofs.Common.{inr, refl, sym, ◌∙◌, inl}
use Rattle.series_stack.proofs.Saving.{saved-is, unlawful}
use Rattle.series_stack.proofs.save.check_name.Goals as goal

pub returns-then-may_be_saved-clause-saved : goal.returns-then-may_be_saved-clause-saved
returns-then-may_be_saved-clause-saved c =
    saved-is c.in-Ok.name c.args.text.now c.in-Ok.ensures.lawful c.in-Ok.ensures.text ∙ sym c.may_be_saved.ensures ∙ c.if-may_be_saved.true

pub returns-in-Err-Refused-clause-cause : goal.returns-in-Err-Refused-clause-cause
returns-in-Err-Refused-clause-cause c =
    let broken = (c.in-Err-Refused.ensures.refused c.in-Err-Refused.field-0-0).0 (rw (← c.in-Err-Refused.field-0-is) refl) in
    inr (refl, unlawful c.args.text.now c.in-Err-Refused.field-0-0 broken)

pub returns-in-Ok-clause-cause : goal.returns-in-Ok-clause-cause
returns-in-Ok-clause-cause c =
    inr (refl, saved-is c.in-Ok.name c.args.text.now c.in-Ok.ensures.lawful c.in-Ok.ensures.text ∙ sym c.may_be_saved.ensures ∙ c.if-may_be_saved.false)

pub returns-clause-cause : goal.returns-clause-cause
returns-clause-cause c = inl refl
