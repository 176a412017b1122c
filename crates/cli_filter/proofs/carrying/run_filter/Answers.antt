use Rattle.std.proofs.Common.{map, refl, string_bytes}
use Rattle.cli_filter.specs.Jobs.{job_of}
use Rattle.cli_filter.proofs.Early.{words_carry, words_say, words_not}
use Rattle.cli_filter.proofs.carrying.run_filter.Goals as goal

pub returns-in-Err : goal.returns-in-Err
returns-in-Err g c = record {
  carries = words_carry (job_of (map string_bytes c.args.words.now)) _ _ _ _ c.in-Err.why c.in-Err.ensures.refused;
  words = λ fault is. words_say (job_of (map string_bytes c.args.words.now)) c.in-Err.why fault is c.in-Err.ensures.refused;
  still = λ fault is. refl;
  silent = λ fault is. refl;
  unread = λ never. refl;
  unasked = λ f left told none. refl;
  no_pattern = λ never. refl;
  rest = g.met.O.Sink.rest_none c.args.out.now;
}

pub returns-in-Ok : goal.returns-in-Ok
returns-in-Ok g c = record {
  carries = rw c.in-Ok.ensures.job c.run_job.ensures.carries;
  words = λ fault is. absurd (words_not (job_of (map string_bytes c.args.words.now)) _ fault c.in-Ok.ensures.job is);
  still = λ fault is. absurd (words_not (job_of (map string_bytes c.args.words.now)) _ fault c.in-Ok.ensures.job is);
  silent = λ fault is. absurd (words_not (job_of (map string_bytes c.args.words.now)) _ fault c.in-Ok.ensures.job is);
  unread = λ never. c.run_job.ensures.unread (rw c.in-Ok.ensures.job at never);
  unasked = λ f left told none. c.run_job.ensures.unasked f left (rw c.in-Ok.ensures.job at told) (rw c.in-Ok.ensures.job at none);
  no_pattern = λ never. c.run_job.ensures.no_pattern (rw c.in-Ok.ensures.job at never);
  rest = c.run_job.ensures.rest;
}

pub run_job-requires : goal.run_job-requires
run_job-requires g c = record { filter = c.in-Ok.ensures.filter }
