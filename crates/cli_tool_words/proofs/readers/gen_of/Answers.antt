use Rattle.std.proofs.Common.{◌∙◌, ◌&&◌, ℕ, Option, ap, codes, inr, is_some, refl, sym, unwrap_or}
use Rattle.patch_options.specs.Forms.{buffer_of, plan_of, sync_of}
use Rattle.patch_options.specs.Simple.{rows_in}
use Rattle.patch_options.specs.Table.{has_form, value_of}
use Rattle.patch_options.proofs.Refusing.{no_left, no_right, all_yes}
use Rattle.cli_tool_words.specs.Asked.{is_made, is_sync, number_in}
use Rattle.cli_tool_words.specs.PlainJobs.PlainToolJob.{gen_job}
use Rattle.cli_tool_words.proofs.Making.{made_is}
use Rattle.cli_tool_words.proofs.readers.gen_of.Goals as goal
use Rattle.cli_tool_words.proofs.readers.gen_of.Goals.{then-not-is_plan-via-then-not-is_plan, then-not-is_plan-via-else-not-is_plan+then-not-is_buffer}

pub returns : goal.returns
returns c = record {
  job = (
      let numbers = c.in-Some-Some-Some in
      λ i. gen_job (record {
        seed = ap (λ (o : Option ℕ). unwrap_or o 0) (sym numbers.is-0 ∙ c.number_in.ensures) i;
        files = ap (λ (o : Option ℕ). unwrap_or o 0) (sym numbers.is-1 ∙ c.number_in-2.ensures) i;
        lines = ap (λ (o : Option ℕ). unwrap_or o 0) (sym numbers.is-2 ∙ c.number_in-3.ensures) i;
        plan = c.plan_in.ensures i;
        buffer = c.buffer_in.ensures i;
        sync = c.sync_in.ensures i;
      }));
  lawful = (
      all_yes _ _ (made_is (sym c.in-Some-Some-Some.is-0 ∙ c.number_in.ensures) (sym c.in-Some-Some-Some.is-1 ∙ c.number_in-2.ensures) (sym c.in-Some-Some-Some.is-2 ∙ c.number_in-3.ensures) (sym c.is_size.ensures ∙ c.if-not-is_size.false))
      (all_yes _ _ (ap (has_form (λ t. is_some (sync_of t))) (sym c.value_of.ensures) ∙ (sym c.is_sync.ensures ∙ c.if-not-is_sync.false))
      (all_yes _ _ (ap (has_form (λ t. is_some (plan_of t))) (sym c.value_of-2.ensures) ∙ (sym c.is_plan.ensures ∙ c.if-not-is_plan.false))
      (ap (has_form (λ t. is_some (buffer_of t))) (sym c.value_of-else-not-is_plan.ensures) ∙ (sym c.is_buffer.ensures ∙ c.if-not-is_buffer.false)))));
  refused = tt;
}

pub returns-then-not-is_size : goal.returns-then-not-is_size
returns-then-not-is_size c = record {
  job = tt;
  lawful = tt;
  refused = inr (refl, no_left _ _ (made_is (sym c.in-Some-Some-Some.is-0 ∙ c.number_in.ensures) (sym c.in-Some-Some-Some.is-1 ∙ c.number_in-2.ensures) (sym c.in-Some-Some-Some.is-2 ∙ c.number_in-3.ensures) (sym c.is_size.ensures ∙ c.if-not-is_size.true)));
}

pub returns-then-not-is_sync : goal.returns-then-not-is_sync
returns-then-not-is_sync c = record {
  job = tt;
  lawful = tt;
  refused = inr (refl, no_right _ _ (no_left _ _ (ap (has_form (λ t. is_some (sync_of t))) (sym c.value_of.ensures) ∙ (sym c.is_sync.ensures ∙ c.if-not-is_sync.true))));
}

pub returns-then-not-is_plan : goal.returns-then-not-is_plan
returns-then-not-is_plan c = record {
  job = tt;
  lawful = tt;
  refused = (
      let rows = rows_in c.args.matches.now in
      let plan = has_form (λ t. is_some (plan_of t)) (value_of rows (codes "plan")) in
      let buffer = has_form (λ t. is_some (buffer_of t)) (value_of rows (codes "buffer")) in
      inr (
        refl,
        no_right (is_made (number_in rows (codes "seed")) (number_in rows (codes "files")) (number_in rows (codes "lines"))) (is_sync rows && (plan && buffer)) (no_right (is_sync rows) (plan && buffer) (elim c.then-not-is_plan.branch [
          | then-not-is_plan-via-then-not-is_plan w ↦ no_left plan buffer (ap (has_form (λ t. is_some (plan_of t))) (sym c.value_of-2.ensures) ∙ (sym c.is_plan.ensures ∙ w.if-not-is_plan.true))
          | then-not-is_plan-via-else-not-is_plan+then-not-is_buffer w ↦ no_right plan buffer (ap (has_form (λ t. is_some (buffer_of t))) (sym w.value_of-else-not-is_plan.ensures) ∙ (sym w.is_buffer.ensures ∙ w.if-not-is_buffer.true))
        ])),
      ));
}

pub returns-in_default-clause-lawful : goal.returns-in_default-clause-lawful
returns-in_default-clause-lawful c = tt

pub returns-in_default-clause-job : goal.returns-in_default-clause-job
returns-in_default-clause-job c = tt
