use Rattle.std.proofs.Common.{inl, inr, ⊎_elim, ◌∙◌, ap}
use Rattle.std.proofs.lemmas.Result.{IfErr-weaker, IfOk-weaker}
use Rattle.cli_run_answers.specs.Answers.{of_words}
use Rattle.cli_gen.specs.Jobs.{made_of}
use Rattle.cli_gen.proofs.reading.read_job.Goals as goal

pub returns-in-Ok : goal.returns-in-Ok
returns-in-Ok c = record {
  job = IfOk-weaker c.made_by-made.result _ _ (λ gen is. ap made_of c.in-Ok.ensures.job ∙ is) c.made_by-made.ensures.job;
  refused = IfErr-weaker c.made_by-made.result _ _ (λ why is. inr (is.0, is.1, ap made_of c.in-Ok.ensures.job ∙ is.2)) c.made_by-made.ensures.refused;
  size = c.made_by-made.ensures.size;
}

pub returns-in-Err : goal.returns-in-Err
returns-in-Err c = record {
  refused = ⊎_elim (λ is. inl (c.from.ensures ∙ ap of_words is)) (λ is. inr (c.in-Err.fault, c.from.ensures, ap made_of is)) c.in-Err.ensures.refused;
  size = tt;
  job = tt;
}
