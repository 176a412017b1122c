-- What an answer says whatever is told: of the words, of the patch text, and of the devices before and after.
use Rattle.std.specs.Prelude.{◌≡◌, ◌≢◌, ℕ, ◌^◌, ◌<◌, ◌≤◌, List, Some, Result, Err}
use Rattle.outside.specs.Faults.{HasRisen}
use Rattle.outside.specs.Files.{Files}
use Rattle.outside.specs.TreeView as tree
use Rattle.outside.specs.SinkView as sink
use Rattle.patch_options.specs.declared.options.WordFault.{WordFault}
use Rattle.patch_options.specs.declared.options.WordFault.TheVariants as words
use Rattle.read_clean_text.specs.Reading.{clean_of}
use Rattle.patch_set.specs.declared.fault.SetFault.{SetFault}
use Rattle.patch_set.specs.declared.fault.SetFault.TheVariants as set
use Rattle.patch_set.specs.Refusals.{refusal}
use Rattle.stack_patch.specs.Reading.{push_options}
use Rattle.cli_tool_words.specs.declared.jobs.StackOp.{StackOp}
use Rattle.cli_tool_words.specs.declared.jobs.StackOp.TheVariants.{Push, Pop, Applied}
use Rattle.cli_run_answers.specs.declared.why.Why.{Why}
use Rattle.cli_run_answers.specs.declared.why.Why.TheVariants.{Done, Rejected, Usage, Malformed, Garbage, EdReverse, OutMany, Reserved, NoPatchFile, TooLong, LongLine, FileTooLong, BadPattern, NoContext, Unfit, BadState, StackEnd, StackName, ReadFault, WriteFault, TreeFault, ScratchFault, Disagree, Memory}
use Rattle.cli_run_answers.specs.Worlds.{World}
use Rattle.cli_stack.specs.Jobs.{AsksFor, IsPushing}
use Rattle.cli_stack.specs.Worlds.{Tells}

-- a push, and some text is refused so, once it is clean
abbrev pub RefusesText : SetFault → StackOp → Type 0
RefusesText fault op = IsPushing op × ((text : List ℕ) × (refusal push_options (clean_of push_options text) ≡ Some fault))

-- there is an end to come to; behind the last pop none is applied
abbrev pub HasEnd : ℕ → StackOp → Type 0
HasEnd n Push = Unit {0}
HasEnd n Pop = n ≡ 0
HasEnd n Applied = ⊥

abbrev pub HasCause : Why → Result StackOp WordFault → World → World → Type 0
HasCause Done job u w = AsksFor job (λ op. Unit {0})
HasCause Rejected job u w = AsksFor job IsPushing
HasCause Usage job u w = job ≡ Err words.Usage
HasCause NoPatchFile job u w = AsksFor job (λ op. Unit {0})
HasCause TooLong job u w = AsksFor job IsPushing
HasCause (Malformed line kind) job u w = AsksFor job (RefusesText (set.Malformed line kind))
HasCause Garbage job u w = AsksFor job (RefusesText set.Garbage)
HasCause (EdReverse line) job u w = AsksFor job (RefusesText (set.EdReverse line))
HasCause (OutMany count) job u w = AsksFor job (RefusesText (set.OutMany count))
HasCause (Reserved line) job u w = AsksFor job (RefusesText (set.Reserved line))
HasCause (LongLine line length) job u w = AsksFor job (λ op. IsPushing op × (65532 < length))
HasCause (FileTooLong length) job u w = AsksFor job (λ op. IsPushing op × (2 ^ 32 ≤ length))
HasCause (BadState file) job u w = AsksFor job (λ op. Unit {0})
HasCause (StackEnd applied) job u w = AsksFor job (HasEnd applied)
HasCause (StackName line) job u w = AsksFor job IsPushing
HasCause WriteFault job u w = sink.Rises u.out w.out
HasCause TreeFault job u w = tree.Rises u.tree w.tree
HasCause ScratchFault job u w = AsksFor job IsPushing × HasRisen u.scratch.faults w.scratch.faults
HasCause (Disagree want got) job u w = (want ≢ got) × ((f : Files) → Tells job u f → ⊥)
HasCause Memory job u w = Unit {0}
-- the others are answers of other tools alone
HasCause BadPattern job u w = ⊥
HasCause (NoContext line) job u w = ⊥
HasCause (Unfit line) job u w = ⊥
HasCause ReadFault job u w = ⊥
