use Rattle.std.proofs.Common.{inr, refl, ap, sym, ◌∙◌, Err, is_none}
use Rattle.outside.specs.Names.{broken_given}
use Rattle.patch_options.specs.Forms.{is_name}
use Rattle.patch_options.proofs.names.name_of.Goals as goal

pub returns-in-Err-Refused-clause-refused : goal.returns-in-Err-Refused-clause-refused
unfolding is_name
returns-in-Err-Refused-clause-refused c = inr (
  refl,
  ap (λ t. is_none (broken_given t)) (sym c.as_bytes.ensures.value)
      ∙ ap (λ r. is_none r) ((c.given.ensures.refused c.in-Err-Refused.field-0-0).0 (c.in-Err-Refused.is ∙ ap (λ e. Err e) c.in-Err-Refused.field-0-is)),
)
