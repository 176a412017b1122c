use Rattle.std.proofs.Common.{◌∙◌, Option, ap, inr, is_some, refl, sym, unwrap_or}
use Rattle.patch_options.specs.Forms.{sync_of}
use Rattle.patch_options.specs.Table.{has_form}
use Rattle.patch_options.proofs.Refusing.{no_left, no_right, all_yes}
use Rattle.cli_tool_words.specs.PlainJobs.PlainToolJob.{stack_job}
use Rattle.cli_tool_words.specs.declared.jobs.StackOp.{StackOp}
use Rattle.cli_tool_words.specs.declared.jobs.StackOp.TheVariants.{Applied}
use Rattle.cli_tool_words.proofs.readers.stack_of.Goals as goal

pub returns-then-not-is_sync : goal.returns-then-not-is_sync
returns-then-not-is_sync c = record {
  job = tt;
  lawful = tt;
  refused = inr (refl, no_left _ _ (ap (has_form (λ t. is_some (sync_of t))) (sym c.value_of.ensures) ∙ (sym c.is_sync.ensures ∙ c.if-not-is_sync.true)));
}

pub returns-in-Some : goal.returns-in-Some
returns-in-Some c = record {
  job = λ i. stack_job (record { op = ap (λ (o : Option StackOp). unwrap_or o Applied) c.in-Some.ensures i; all = c.is_used.ensures i; sync = c.sync_in.ensures i });
  lawful = (
      all_yes _ _ (ap (has_form (λ t. is_some (sync_of t))) (sym c.value_of.ensures) ∙ (sym c.is_sync.ensures ∙ c.if-not-is_sync.false))
      (ap (λ (o : Option StackOp). is_some o) (sym c.in-Some.ensures)));
  refused = tt;
}

pub returns-in-None : goal.returns-in-None
returns-in-None c = record {
  job = tt;
  lawful = tt;
  refused = inr (refl, no_right _ _ (ap (λ (o : Option StackOp). is_some o) (sym c.in-None.ensures)));
}
