use Rattle.std.proofs.Common.{inl, inr, ⊎_elim, ◌∙◌, ap}
use Rattle.std.proofs.lemmas.Result.{IfErr-weaker, IfOk-weaker}
use Rattle.patch_options.specs.declared.options.WordFault.TheVariants.{Usage}
use Rattle.cli_run_answers.specs.Answers.{of_words}
use Rattle.cli_stack.specs.Jobs.{stack_all, stack_op}
use Rattle.cli_stack.proofs.reading.read_job.Goals as goal

pub returns-in-Ok : goal.returns-in-Ok
returns-in-Ok c = record {
  op = IfOk-weaker c.supported-job.result _ _ (λ job is. ap stack_op c.in-Ok.ensures.job ∙ is) c.supported-job.ensures.op;
  all = IfOk-weaker c.supported-job.result _ _ (λ job is. ap stack_all c.in-Ok.ensures.job ∙ is) c.supported-job.ensures.all;
  refused = IfErr-weaker c.supported-job.result _ _ (λ why is. inr (Usage, is.0, ap stack_op c.in-Ok.ensures.job ∙ is.1)) c.supported-job.ensures.refused;
}

pub returns-in-Err-clause-refused : goal.returns-in-Err-clause-refused
returns-in-Err-clause-refused c = ⊎_elim (λ is. inl (c.from.ensures ∙ ap of_words is)) (λ is. inr (c.in-Err.fault, c.from.ensures, ap stack_op is)) c.in-Err.ensures.refused
