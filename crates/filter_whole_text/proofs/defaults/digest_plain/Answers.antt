use Rattle.std.proofs.Common.{◌∙◌, IfOk, ap, subst}
use Rattle.std.proofs.lemmas.Result.{IfOk-weaker}
use Rattle.patch_options.specs.PlainJob.{PlainOptions}
use Rattle.patch_set.specs.declared.fault.SetFault.{SetFault}
use Rattle.filter_choice.specs.Digested.{IsDigestOf}
use Rattle.patch_set.specs.Refusals.{refusal}
use Rattle.patch_set.specs.SetView.{Meets}
use Rattle.std.specs.Prelude.{Option}
use Rattle.filter_whole_text.specs.Texts.{defaults, dry_defaults}
use Rattle.filter_whole_text.proofs.DryReading.{digested-alike, refused-alike}
use Rattle.filter_whole_text.proofs.defaults.digest_plain.Goals as goal

pub read_digest-digest-requires : goal.read_digest-digest-requires
read_digest-digest-requires c = c.default_options-options.ensures.lawful

pub returns : goal.returns
returns c = record {
  digest = IfOk-weaker c.read_digest-digest.result (IsDigestOf (dry_defaults c.args.skip_binary) c.args.text.items) (IsDigestOf (defaults c.args.skip_binary) c.args.text.items) (digested-alike c.args.skip_binary c.args.text.items)
      (subst (λ (o : PlainOptions). IfOk c.read_digest-digest.result (IsDigestOf o c.args.text.items)) c.default_options-options.ensures.options c.read_digest-digest.ensures.digest);
  refused = subst (λ (r : Option SetFault). Meets r c.read_digest-digest.result) (ap (λ (o : PlainOptions). refusal o c.args.text.items) c.default_options-options.ensures.options ∙ refused-alike c.args.skip_binary c.args.text.items) c.read_digest-digest.ensures.refused;
}
