use Rattle.std.proofs.Common.{◌≡◌, Err, ap, is_none, sym, ◌∙◌, if◌then◌else◌}
use Rattle.std.proofs.lemmas.Result.{IfOk-weaker}
use Rattle.outside.specs.Names.{given_form}
use Rattle.read_file_patch.specs.Targets.{lawful_or}
use Rattle.read_file_patch.proofs.derived.given_or.Goals as goal

pub returns-in-Err-Refused : goal.returns-in-Err-Refused
returns-in-Err-Refused c =
    IfOk-weaker c.copy.result (λ made. made ≡ c.args.name.now) (λ made. made ≡ lawful_or c.args.text.now c.args.name.now)
    (λ made is. is ∙ sym (ap (λ b. if is_none b then given_form c.args.text.now else c.args.name.now)
    ((c.given.ensures.refused c.in-Err-Refused.field-0-0).0 (c.in-Err-Refused.is ∙ ap (λ e. Err e) c.in-Err-Refused.field-0-is)))) c.copy.ensures
