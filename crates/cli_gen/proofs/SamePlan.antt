-- With another plan a command does the same.
use Rattle.std.proofs.Common.{◌≡◌, arith}
use Rattle.outside.specs.Files.{Files}
use Rattle.patch_options.specs.declared.options.PlanKind.{PlanKind}
use Rattle.cli_tool_words.specs.PlainJobs.{PlainGenJob}
use Rattle.patch_run.proofs.SamePlan.{refusal_same, run_same}
use Rattle.cli_gen.specs.Jobs.{options_for, with_plan}
use Rattle.cli_gen.specs.Command.{on_job}

pub job_same : (plan : PlanKind) (j : PlainGenJob) (f : Files) → on_job (with_plan plan j) f ≡ on_job j f
job_same plan j f = grind (arith, refusal_same plan (options_for j), run_same plan (options_for j))
