use Rattle.std.proofs.Common.{◌∙◌, IfOk, ap, subst}
use Rattle.std.proofs.lemmas.Result.{IfOk-weaker}
use Rattle.patch_options.specs.PlainJob.{PlainOptions}
use Rattle.patch_set.specs.declared.fault.SetFault.{SetFault}
use Rattle.patch_set.specs.Refusals.{refusal}
use Rattle.patch_set.specs.SetView.{IsRead, Meets}
use Rattle.std.specs.Prelude.{Option}
use Rattle.filter_whole_text.specs.Texts.{defaults, dry_defaults}
use Rattle.filter_whole_text.proofs.DryReading.{read-alike, refused-alike}
use Rattle.filter_whole_text.proofs.defaults.read_plain.Goals as goal

pub read_set-set-requires : goal.read_set-set-requires
read_set-set-requires c = c.default_options-options.ensures.lawful

pub returns : goal.returns
returns c = record {
  read = IfOk-weaker c.read_set-set.result (IsRead (dry_defaults c.args.skip_binary) c.args.text.items) (IsRead (defaults c.args.skip_binary) c.args.text.items) (read-alike c.args.skip_binary c.args.text.items)
      (subst (λ (o : PlainOptions). IfOk c.read_set-set.result (IsRead o c.args.text.items)) c.default_options-options.ensures.options c.read_set-set.ensures.read);
  whole = c.read_set-set.ensures.whole;
  refused = subst (λ (r : Option SetFault). Meets r c.read_set-set.result) (ap (λ (o : PlainOptions). refusal o c.args.text.items) c.default_options-options.ensures.options ∙ refused-alike c.args.skip_binary c.args.text.items) c.read_set-set.ensures.refused;
}
