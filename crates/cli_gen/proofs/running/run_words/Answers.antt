use Rattle.std.proofs.Common.{map, string_bytes, refl, inl, inr, ⊎_elim, ◌∙◌}
use Rattle.cli_tool_words.specs.PlainJobs.{plain_gen_job}
use Rattle.cli_gen.specs.Jobs.{job_of}
use Rattle.cli_gen.proofs.Whole.{carries_is}
use Rattle.cli_gen.proofs.Early.{words_carry, carries_words, asks_both, words_say}
use Rattle.cli_gen.proofs.running.run_words.Goals as goal

pub returns-in-Ok : goal.returns-in-Ok
returns-in-Ok g c = record {
  carries = carries_words (job_of (map string_bytes c.args.words.now)) (plain_gen_job c.in-Ok.job) c.in-Ok.ensures.job c.run_gen.ensures.carries;
  silent = λ fault is. absurd (asks_both c.in-Ok.ensures.job is);
  still = λ fault is. absurd (asks_both c.in-Ok.ensures.job is);
  words = λ fault is. absurd (asks_both c.in-Ok.ensures.job is);
  scratch = rw c.in-Ok.ensures.job c.run_gen.ensures.scratch;
  rest = c.run_gen.ensures.rest;
  status = c.run_gen.ensures.status;
}

pub returns-in-Err : goal.returns-in-Err
returns-in-Err g c = record {
  carries = carries_is c.exit_of.result.why c.in-Err.why c.exit_of.result.applied c.exit_of.result.applied c.exit_of.ensures.why refl
      (words_carry (job_of (map string_bytes c.args.words.now)) _ _ _ c.in-Err.why c.exit_of.result.applied c.exit_of.ensures.applied c.in-Err.ensures.refused);
  rest = g.met.O.Sink.rest_none c.args.out.now;
  words = λ fault is. ⊎_elim (λ told. inl (c.exit_of.ensures.why ∙ told)) (λ memory. inr (c.exit_of.ensures.why ∙ memory)) (words_say (job_of (map string_bytes c.args.words.now)) c.in-Err.why fault is c.in-Err.ensures.refused);
  still = λ fault is. refl;
  silent = λ fault is. refl;
  status = c.exit_of.ensures.status;
  scratch = λ none. refl;
}
