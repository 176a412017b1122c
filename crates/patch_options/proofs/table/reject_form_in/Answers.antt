use Rattle.std.proofs.Common.{◌∙◌, ap, sym, option_and_then}
use Rattle.patch_options.specs.Forms.{reject_form_of}
use Rattle.patch_options.specs.Table.{text_of}
use Rattle.patch_options.proofs.table.reject_form_in.Goals as goal

pub returns-in-Some : goal.returns-in-Some
returns-in-Some c = c.reject_form_of.ensures ∙ (ap (λ v. option_and_then reject_form_of (text_of v)) (sym c.in-Some.is) ∙ ap (option_and_then reject_form_of) c.value_of.ensures)

pub returns-in-None : goal.returns-in-None
returns-in-None c = ap (λ v. option_and_then reject_form_of (text_of v)) (sym c.in-None.is) ∙ ap (option_and_then reject_form_of) c.value_of.ensures
