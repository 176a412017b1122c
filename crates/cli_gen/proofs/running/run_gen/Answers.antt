use Rattle.cli_gen.proofs.Whole.{carries_is}
use Rattle.cli_gen.proofs.running.run_gen.Goals as goal

pub returns : goal.returns
returns g c = record {
  carries = carries_is c.exit_of.result.why _ c.exit_of.result.applied _ c.exit_of.ensures.why c.exit_of.ensures.applied c.run_job-ended.ensures.carries;
  scratch = c.run_job-ended.ensures.scratch;
  rest = c.run_job-ended.ensures.rest;
  status = c.exit_of.ensures.status;
}
