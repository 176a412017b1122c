use Rattle.std.proofs.Common.{◌∙◌, ap, length}
use Rattle.patch_options.specs.Forms.{number_of}
use Rattle.patch_options.proofs.Numbers.{not_whole, fills}
use Rattle.patch_options.proofs.forms.number_of.Goals as goal

pub returns-in_default : goal.returns-in_default
returns-in_default c = not_whole c.as_bytes.result.now c.in-Value.value c.in-Value.end c.in-Value.ensures (λ e. c.if-end-text.false (e ∙ ap length c.as_bytes.ensures.value)) ∙ ap number_of c.as_bytes.ensures.value

pub returns-in-Value : goal.returns-in-Value
returns-in-Value c = fills c.as_bytes.result.now c.args.text.now c.in-Value.value c.in-Value.end c.as_bytes.ensures.value c.in-Value.ensures c.if-end-text.true
