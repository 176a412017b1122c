use Rattle.std.proofs.Common.{◌∙◌, inr, refl, sym}
use Rattle.patch_options.proofs.Refusing.{temp_refused}
use Rattle.patch_options.proofs.names.lasting_name_of.Goals as goal

pub returns-then-is_temp-clause-refused : goal.returns-then-is_temp-clause-refused
returns-then-is_temp-clause-refused c = inr (refl, temp_refused c.args.text.now c.in_ok-name.name c.in_ok-name.ensures.name (sym c.is_temp.ensures.text ∙ c.if-is_temp.true))
