use Rattle.std.proofs.Common.{◌∙◌, ap, inr, is_some, refl, sym, true}
use Rattle.clap.proofs.TakesLemmas.{passed_up}
use Rattle.outside.proofs.Exits.{if_ok_none}
use Rattle.patch_options.specs.Forms.{sync_of}
use Rattle.patch_options.specs.Table.{has_form}
use Rattle.patch_options.proofs.Refusing.{refused_as, no_left, no_right, all_yes}
use Rattle.cli_tool_words.specs.PlainJobs.PlainToolJob.{split_job}
use Rattle.cli_tool_words.proofs.splitting.split_of.Goals as goal

pub returns-then-not-is_sync : goal.returns-then-not-is_sync
returns-then-not-is_sync c = record {
  job = tt;
  lawful = tt;
  refused = inr (refl, no_left _ _ (ap (has_form (λ t. is_some (sync_of t))) (sym c.value_of.ensures) ∙ (sym c.is_sync.ensures ∙ c.if-not-is_sync.true)));
}

pub returns-in_err-names : goal.returns-in_err-names
returns-in_err-names c = record {
  job = if_ok_none _ _ c.from_residual.result c.from_residual.ensures.1;
  lawful = if_ok_none _ _ c.from_residual.result c.from_residual.ensures.1;
  refused = (
      let fault = c.in_err-names.field-0.0 in
      passed_up c.from_residual.result fault _ c.from_residual.ensures.1 (refused_as fault _ _ (λ none. no_right _ _ (no_left _ _ none)) c.in_err-names.ensures.refused));
}

pub returns-in-Err : goal.returns-in-Err
returns-in-Err c = record {
  job = tt;
  lawful = tt;
  refused = refused_as c.in-Err.fault _ _ (λ none. no_right _ _ (no_right _ _ none)) c.in-Err.ensures.refused;
}

pub returns-in-Ok-clause-job : goal.returns-in-Ok-clause-job
returns-in-Ok-clause-job c = λ i. split_job (record {
  input = c.in-Ok.ensures.name i;
  every = c.is_used.ensures i;
  names = c.in_ok-names.ensures.names i;
  verbose = c.is_used-in-Ok.ensures i;
  skip_binary = true;
  sync = c.sync_in.ensures i;
})

pub returns-in-Ok-clause-lawful : goal.returns-in-Ok-clause-lawful
returns-in-Ok-clause-lawful c =
    all_yes _ _
    (ap (has_form (λ t. is_some (sync_of t))) (sym c.value_of.ensures) ∙ (sym c.is_sync.ensures ∙ c.if-not-is_sync.false))
    (all_yes _ _ c.in_ok-names.ensures.lawful c.in-Ok.ensures.lawful)

pub returns-in-Ok-clause-refused : goal.returns-in-Ok-clause-refused
returns-in-Ok-clause-refused c = tt
