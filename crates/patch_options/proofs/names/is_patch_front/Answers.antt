use Rattle.std.proofs.Common.{ap, sym, ◌∙◌, Err, is_none}
use Rattle.outside.specs.Names.{broken_rule}
use Rattle.patch_options.proofs.names.is_patch_front.Goals as goal

pub returns-in-Err-Refused-clause-is : goal.returns-in-Err-Refused-clause-is
returns-in-Err-Refused-clause-is c = sym (
    ap (λ t. is_none (broken_rule t)) (sym (c.as_bytes.ensures.value ∙ (c.as_str.ensures.value ∙ c.in_ok-sample.ensures)))
    ∙ ap (λ r. is_none r) ((c.new.ensures.refused c.in-Err-Refused.field-0-0).0 (c.in-Err-Refused.is ∙ ap (λ e. Err e) c.in-Err-Refused.field-0-is))
    )
