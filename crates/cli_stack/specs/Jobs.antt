-- What the words of `patchstack` ask for.
use Rattle.std.specs.Prelude.{ℕ, List, Bool, false, Option, None, Some, Result, Ok, Err}
use Rattle.patch_options.specs.declared.options.WordFault.{WordFault}
use Rattle.patch_options.specs.declared.options.WordFault.TheVariants.{Usage}
use Rattle.cli_tool_words.specs.PlainJobs.{PlainToolJob}
use Rattle.cli_tool_words.specs.PlainJobs.PlainToolJob.{list_job, filter_job, grep_job, split_job, recount_job, gen_job, flip_job, stack_job}
use Rattle.cli_tool_words.specs.Words.{tool_job}
use Rattle.cli_tool_words.specs.declared.jobs.StackOp.{StackOp}
use Rattle.cli_tool_words.specs.declared.jobs.StackOp.TheVariants.{Push, Pop, Applied}
use Rattle.series_stack.specs.Commands.{StackOp as Operation}
use Rattle.series_stack.specs.Commands.{StackOp as operations}

-- the same operation, as the law of stacks names it
abbrev pub operation : StackOp → Operation
operation Push = operations.Push
operation Pop = operations.Pop
operation Applied = operations.Applied

-- the operation of a job, where it is one of `patchstack`
abbrev pub op_in : PlainToolJob → Option StackOp
op_in (list_job j) = None
op_in (filter_job j) = None
op_in (grep_job j) = None
op_in (split_job j) = None
op_in (recount_job input) = None
op_in (gen_job j) = None
op_in (flip_job input) = None
op_in (stack_job j) = Some j.op

-- other tools' words are no command here
abbrev pub supported : Option StackOp → Result StackOp WordFault
supported None = Err Usage
supported (Some op) = Ok op

abbrev pub stack_op : Result PlainToolJob WordFault → Result StackOp WordFault
stack_op (Ok job) = supported (op_in job)
stack_op (Err fault) = Err fault

-- the operation that the words ask for; the first names the tool
abbrev pub job_of : List (List ℕ) → Result StackOp WordFault
job_of words = stack_op (tool_job words)

-- whether it goes on to the end of the stack
abbrev pub all_in : PlainToolJob → Bool
all_in (stack_job j) = j.all
all_in job = false

abbrev pub stack_all : Result PlainToolJob WordFault → Bool
stack_all (Ok job) = all_in job
stack_all (Err fault) = false

-- whether the words ask to go on to the end
abbrev pub all_of : List (List ℕ) → Bool
all_of words = stack_all (tool_job words)

-- the words ask for an operation of which P holds
abbrev pub AsksFor : Result StackOp WordFault → (StackOp → Type 0) → Type 0
AsksFor (Ok op) P = P op
AsksFor (Err fault) P = ⊥

abbrev pub IsPushing : StackOp → Type 0
IsPushing Push = Unit {0}
IsPushing Pop = ⊥
IsPushing Applied = ⊥
