use Rattle.std.proofs.Common.{None, Some, sym, ◌∙◌}
use Rattle.flip_patch.proofs.Refused.{refused-script, refused-unfit}
use Rattle.flip_patch.proofs.refusals.refusal.Goals as goal

pub returns-in-Some : goal.returns-in-Some
returns-in-Some c = λ text. sym (refused-script text c.args.patches.now c.in-Some.line (sym c.first_script.ensures ∙ c.in-Some.is))

pub returns-in-Some-first_unfit : goal.returns-in-Some-first_unfit
returns-in-Some-first_unfit c = λ text. sym (refused-unfit text c.args.patches.now (Some c.in-Some-first_unfit.line) (sym c.first_script.ensures ∙ c.in_default.is) (sym c.first_unfit.ensures ∙ c.in-Some-first_unfit.is))

pub returns-in-None : goal.returns-in-None
returns-in-None c = λ text. sym (refused-unfit text c.args.patches.now None (sym c.first_script.ensures ∙ c.in_default.is) (sym c.first_unfit.ensures ∙ c.in-None.is))
