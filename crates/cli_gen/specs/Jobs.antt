-- What the words of `patchgen` ask for, and how the patch that it makes is applied.
use Rattle.std.specs.Prelude.{ℕ, List, [], Bool, true, false, Some, Result, Ok, Err}
use Rattle.patch_options.specs.PlainJob.{PlainOptions}
use Rattle.patch_options.specs.Table.{options_of}
use Rattle.patch_options.specs.declared.options.PlanKind.{PlanKind}
use Rattle.patch_options.specs.declared.options.WordFault.{WordFault}
use Rattle.patch_options.specs.declared.options.WordFault.TheVariants.{Usage}
use Rattle.cli_tool_words.specs.PlainJobs.{PlainToolJob, PlainGenJob}
use Rattle.cli_tool_words.specs.PlainJobs.PlainToolJob.{list_job, filter_job, grep_job, split_job, recount_job, gen_job, flip_job, stack_job}
use Rattle.cli_tool_words.specs.Words.{tool_job}
use Rattle.patch_run.specs.Scratches.{has_scratch}

-- words of other tools are no command here
abbrev pub made_by : PlainToolJob → Result PlainGenJob WordFault
made_by (list_job j) = Err Usage
made_by (filter_job j) = Err Usage
made_by (grep_job j) = Err Usage
made_by (split_job j) = Err Usage
made_by (recount_job input) = Err Usage
made_by (gen_job j) = Ok j
made_by (flip_job input) = Err Usage
made_by (stack_job j) = Err Usage

abbrev pub made_of : Result PlainToolJob WordFault → Result PlainGenJob WordFault
made_of (Ok job) = made_by job
made_of (Err fault) = Err fault

-- what the words ask for; the first names the tool
abbrev pub job_of : List (List ℕ) → Result PlainGenJob WordFault
job_of words = made_of (tool_job words)

-- the words ask for a job of which P holds
abbrev pub AsksFor : Result PlainGenJob WordFault → (PlainGenJob → Type 0) → Type 0
AsksFor (Ok job) P = P job
AsksFor (Err fault) P = ⊥

-- the plan that they ask for has a scratch
abbrev pub uses_scratch : Result PlainGenJob WordFault → Bool
uses_scratch (Ok job) = has_scratch job.plan
uses_scratch (Err fault) = false

-- what `patch` alone asks for
abbrev pub plain_patch : PlainOptions
plain_patch = options_of []

-- the options of `patch -s -p0`, with the job's plan, buffer and `--sync`
abbrev pub options_for : PlainGenJob → PlainOptions
options_for j = record plain_patch { strip = Some 0; silent = true; plan = j.plan; buffer = j.buffer; sync = j.sync }

-- the same job with another plan
abbrev pub with_plan : PlanKind → PlainGenJob → PlainGenJob
with_plan plan j = record j { plan = plan }
