-- What an answer says whatever is told: of the words, and of the devices before and after.
use Rattle.std.specs.Prelude.{◌≡◌, ◌≢◌, ◌-◌, ◌^◌, ◌<◌, ◌≤◌, Result, Err}
use Rattle.outside.specs.Faults.{HasRisen}
use Rattle.outside.specs.Files.{Files}
use Rattle.outside.specs.TreeView as tree
use Rattle.outside.specs.SinkView as sink
use Rattle.patch_options.specs.declared.options.WordFault.{WordFault}
use Rattle.patch_options.specs.declared.options.WordFault.TheVariants as words
use Rattle.cli_tool_words.specs.PlainJobs.{PlainGenJob}
use Rattle.cli_run_answers.specs.declared.why.Why.{Why}
use Rattle.cli_run_answers.specs.declared.why.Why.TheVariants.{Done, Rejected, Usage, Malformed, Garbage, EdReverse, OutMany, Reserved, NoPatchFile, TooLong, LongLine, FileTooLong, BadPattern, NoContext, Unfit, BadState, StackEnd, StackName, ReadFault, WriteFault, TreeFault, ScratchFault, Disagree, Memory}
use Rattle.cli_run_answers.specs.Worlds.{World}
use Rattle.cli_gen.specs.Jobs.{AsksFor}
use Rattle.cli_gen.specs.Worlds.{Tells}

abbrev pub HasCause : Why → Result PlainGenJob WordFault → World → World → Type 0
HasCause Done job u w = AsksFor job (λ j. Unit {0})
HasCause Rejected job u w = AsksFor job (λ j. Unit {0})
HasCause Usage job u w = job ≡ Err words.Usage
HasCause (LongLine line length) job u w = AsksFor job (λ j. j.buffer - 4 < length)
HasCause (FileTooLong length) job u w = AsksFor job (λ j. 2 ^ 40 ≤ length)
HasCause WriteFault job u w = sink.Rises u.out w.out
HasCause TreeFault job u w = tree.Rises u.tree w.tree
HasCause ScratchFault job u w = HasRisen u.scratch.faults w.scratch.faults
HasCause (Disagree want got) job u w = (want ≢ got) × ((f : Files) → Tells job u f → ⊥)
HasCause Memory job u w = Unit {0}
-- the others are answers of other tools alone: no text is read, and the made patch isn't refused
HasCause TooLong job u w = ⊥
HasCause (Malformed line kind) job u w = ⊥
HasCause Garbage job u w = ⊥
HasCause (EdReverse line) job u w = ⊥
HasCause (OutMany count) job u w = ⊥
HasCause (Reserved line) job u w = ⊥
HasCause NoPatchFile job u w = ⊥
HasCause BadPattern job u w = ⊥
HasCause (NoContext line) job u w = ⊥
HasCause (Unfit line) job u w = ⊥
HasCause (BadState file) job u w = ⊥
HasCause (StackEnd applied) job u w = ⊥
HasCause (StackName line) job u w = ⊥
HasCause ReadFault job u w = ⊥
