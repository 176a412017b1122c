use Rattle.std.proofs.Common.{◌∙◌, IfOk, ap, subst}
use Rattle.std.proofs.lemmas.Result.{IfOk-weaker}
use Rattle.patch_options.specs.PlainJob.{PlainOptions}
use Rattle.patch_set.specs.declared.fault.SetFault.{SetFault}
use Rattle.filter_choice.specs.Outlined.{IsOutline}
use Rattle.patch_set.specs.Refusals.{refusal}
use Rattle.patch_set.specs.SetView.{Meets}
use Rattle.std.specs.Prelude.{Option}
use Rattle.filter_whole_text.specs.Texts.{defaults, dry_defaults}
use Rattle.filter_whole_text.proofs.DryReading.{outlined-alike, refused-alike}
use Rattle.filter_whole_text.proofs.defaults.outline_plain.Goals as goal

pub read_outline-outline-requires : goal.read_outline-outline-requires
read_outline-outline-requires c = c.default_options-options.ensures.lawful

pub returns : goal.returns
returns c = record {
  outline = IfOk-weaker c.read_outline-outline.result (IsOutline (dry_defaults c.args.skip_binary) c.args.text.items) (IsOutline (defaults c.args.skip_binary) c.args.text.items) (outlined-alike c.args.skip_binary c.args.text.items)
      (subst (λ (o : PlainOptions). IfOk c.read_outline-outline.result (IsOutline o c.args.text.items)) c.default_options-options.ensures.options c.read_outline-outline.ensures.outline);
  refused = subst (λ (r : Option SetFault). Meets r c.read_outline-outline.result) (ap (λ (o : PlainOptions). refusal o c.args.text.items) c.default_options-options.ensures.options ∙ refused-alike c.args.skip_binary c.args.text.items) c.read_outline-outline.ensures.refused;
}
