-- What a command of a stack comes to, by the files: its answer, what it says, and what it changes.
use Rattle.std.specs.Prelude.{ℕ, List, [], ◌∷◌, ◌++◌, drop, Option, None, Some, Result, Ok, Err}
use Rattle.std.specs.FinMap.{get}
use Rattle.line_list.specs.Completed.{completed}
use Rattle.hunk_core.specs.Reading.{Fault}
use Rattle.outside.specs.Files.{Files}
use Rattle.outside.specs.Quiet.{Effect, after}
use Rattle.line_store.specs.declared.fault.OpenFault.{OpenFault}
use Rattle.read_file_patch.specs.PlainPatch.{PlainPatch}
use Rattle.patch_options.specs.declared.options.WordFault.{WordFault}
use Rattle.read_patch_text.specs.Patches.{patches_of}
use Rattle.read_clean_text.specs.Reading.{clean_of}
use Rattle.patch_set.specs.Asked.{ways_of}
use Rattle.patch_set.specs.declared.fault.SetFault.{SetFault}
use Rattle.patch_set.specs.Refusals.{refusal}
use Rattle.cli_run_answers.specs.declared.fault.InputFault.{InputFault}
use Rattle.cli_run_answers.specs.Input.{answer_of}
use Rattle.apply_task.specs.Faults.{of_open}
use Rattle.patch_run.specs.Run.{run_of}
use Rattle.series_stack.specs.Undoing.{entries_at}
use Rattle.series_stack.specs.Stack.{Stack, Refusal, patch_name, stack_of, recover}
use Rattle.series_stack.specs.Stack.Refusal.{NoSeries, Bad, AtEnd, NoPatch, OwnName}
use Rattle.series_stack.specs.Commands.{Ending, Patch, names_of}
use Rattle.series_stack.specs.Commands.{Ending as endings}
use Rattle.series_stack.specs.Outcomes.{Answer, saving}
use Rattle.series_stack.specs.Outcomes.{Answer as answers}
use Rattle.series_stack.specs.Outcomes as law
use Rattle.stack_patch.specs.Reading.{push_options, items_for, read_patch}
use Rattle.cli_tool_words.specs.declared.jobs.StackOp.{StackOp}
use Rattle.cli_run_answers.specs.declared.why.Why.{Why}
use Rattle.cli_run_answers.specs.declared.why.Why.TheVariants.{Done, Rejected, NoPatchFile, FileTooLong, BadState, StackEnd, StackName}
use Rattle.cli_run_answers.specs.Answers.{of_words, of_input, of_set, of_run}
use Rattle.cli_run_answers.specs.Outcomes.{Outcome, refused}
use Rattle.cli_stack.specs.Jobs.{operation}

-- what was said and done before, and then this
abbrev pub behind : List Effect → List ℕ → Outcome → Outcome
behind effects text o = record { why = o.why; text = text ++ o.text; effects = effects ++ o.effects }

-- ---- the file of the next patch

-- with the patches that aren't applied
abbrev pub first_file : List (List ℕ) → Files → Option (List ℕ)
first_file [] f = None
first_file (name ∷ names) f = get f (patch_name name)

abbrev pub next_file : Result Stack Refusal → Files → Option (List ℕ)
next_file (Err e) f = None
next_file (Ok s) f = first_file (drop s.applied s.patches) f

-- why a text is no patch; one that isn't refused is one
abbrev pub text_why : Option SetFault → Why
text_why (Some fault) = of_set fault
text_why None = Done

abbrev pub input_why : Result (List ℕ) InputFault → Why
input_why (Err fault) = of_input fault
input_why (Ok text) = text_why (refusal push_options (clean_of push_options text))

-- why a file gives no patch: it is missing or too long, or its text is refused
abbrev pub patch_why : Option (List ℕ) → Why
patch_why held = input_why (answer_of held)

-- ---- a patch that is cut off

-- the file that isn't taken, where the patch of a text is cut off on these files
abbrev pub patches_stop : Result (List PlainPatch) Fault → Files → Option OpenFault
patches_stop (Err fault) f = None
patches_stop (Ok ps) f = (run_of push_options None (items_for push_options ps) f).stop

abbrev pub stop_in : Option (List ℕ) → Files → Option OpenFault
stop_in None f = None
stop_in (Some text) f = patches_stop (patches_of (ways_of push_options) (completed (clean_of push_options text))) f

-- the answer of a patch that is cut off; one that isn't has another
abbrev pub stop_why : Option OpenFault → Why
stop_why (Some fault) = of_run (of_open fault)
stop_why None = Done

-- files with the save of what a patch's names stand for, where so many patches are applied
abbrev pub saved_files : Option Patch → ℕ → Files → Files
saved_files None n f = f
saved_files (Some p) n f = after (saving n (entries_at f (names_of p.targets))) f

-- ---- the answer

abbrev pub refusal_why : Why → Refusal → Why
refusal_why patch NoSeries = NoPatchFile
refusal_why patch (Bad file) = BadState file
refusal_why patch (AtEnd n) = StackEnd n
refusal_why patch NoPatch = patch
refusal_why patch (OwnName line) = StackName line

abbrev pub ending_why : Why → Ending → Why
ending_why stop endings.Done = Done
ending_why stop endings.Rejected = Rejected
ending_why stop endings.CutOff = stop

abbrev pub answer_why : Why → Why → Answer → Why
answer_why patch stop (answers.Refused e) = refusal_why patch e
answer_why patch stop (answers.TooLong size) = FileTooLong size
answer_why patch stop (answers.Ended e) = ending_why stop e

-- with what the next patch's file holds, and the number of those that are applied
abbrev pub outcome_with : Option (List ℕ) → ℕ → Files → law.Outcome → Outcome
outcome_with held n f o = record {
  why = answer_why (patch_why held) (stop_why (stop_in held (saved_files (read_patch held) n (recover f)))) o.answer;
  text = o.text;
  effects = o.effects;
}

abbrev pub applied_in : Result Stack Refusal → ℕ
applied_in (Err e) = 0
applied_in (Ok s) = s.applied

-- what is done on these files
abbrev pub on_op : StackOp → Files → Outcome
on_op op f = outcome_with (next_file (stack_of f) f) (applied_in (stack_of f)) f (law.command read_patch (operation op) f)

-- what the words come to that ask for this. A push answers without a receipt, as its effects are more than those of its patch
abbrev pub command : Result StackOp WordFault → Files → Outcome
command (Ok op) f = on_op op f
command (Err fault) f = refused (of_words fault)
