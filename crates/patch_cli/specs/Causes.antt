-- What an answer says whatever is told: of the words, of the patch text, and of the devices before and after.
use Rattle.std.specs.Prelude.{◌≡◌, ◌≢◌, ℕ, ◌-◌, ◌^◌, ◌<◌, ◌≤◌, List, true, false, Some, Result, Err}
use Rattle.outside.specs.Faults.{HasRisen}
use Rattle.outside.specs.Files.{Files}
use Rattle.outside.specs.TreeView as tree
use Rattle.outside.specs.SinkView as sink
use Rattle.patch_options.specs.PlainJob.{PlainOptions, PlainJob}
use Rattle.patch_options.specs.declared.options.WordFault.{WordFault}
use Rattle.patch_options.specs.declared.options.WordFault.TheVariants as words
use Rattle.patch_set.specs.declared.fault.SetFault.{SetFault}
use Rattle.patch_set.specs.declared.fault.SetFault.TheVariants as set
use Rattle.read_clean_text.specs.Reading.{clean_of}
use Rattle.patch_set.specs.Refusals.{refusal}
use Rattle.cli_run_answers.specs.declared.why.Why.{Why}
use Rattle.cli_run_answers.specs.declared.why.Why.TheVariants.{Done, Rejected, Usage, Malformed, Garbage, EdReverse, OutMany, Reserved, NoPatchFile, TooLong, LongLine, FileTooLong, BadPattern, NoContext, Unfit, BadState, StackEnd, StackName, ReadFault, WriteFault, TreeFault, ScratchFault, Disagree, Memory}
use Rattle.patch_cli.specs.Worlds.{World, TellsFiles, AsksFor, is_standard, reads_source}

-- some text is refused so, once it is clean
abbrev pub IsRefusal : SetFault → PlainOptions → Type 0
IsRefusal fault o = (given : List ℕ) × (refusal o (clean_of o given) ≡ Some fault)

abbrev pub HasCause : Why → Result PlainJob WordFault → World → World → Type 0
HasCause Done job u w = Unit {0}
HasCause Rejected job u w = Unit {0}
HasCause Usage job u w = job ≡ Err words.Usage
HasCause NoPatchFile job u w = AsksFor job (λ o. is_standard o.input ≡ false)
HasCause TooLong job u w = AsksFor job (λ o. Unit {0})
HasCause (Malformed line kind) job u w = AsksFor job (IsRefusal (set.Malformed line kind))
HasCause Garbage job u w = AsksFor job (IsRefusal set.Garbage)
HasCause (EdReverse line) job u w = AsksFor job (IsRefusal (set.EdReverse line))
HasCause (OutMany count) job u w = AsksFor job (IsRefusal (set.OutMany count))
HasCause (Reserved line) job u w = AsksFor job (IsRefusal (set.Reserved line))
HasCause (LongLine line length) job u w = AsksFor job (λ o. o.buffer - 4 < length)
HasCause (FileTooLong length) job u w = AsksFor job (λ o. 2 ^ 40 ≤ length)
-- what is an answer of other tools alone
HasCause BadPattern job u w = ⊥
HasCause (NoContext line) job u w = ⊥
HasCause (Unfit line) job u w = ⊥
HasCause (BadState file) job u w = ⊥
HasCause (StackEnd applied) job u w = ⊥
HasCause (StackName line) job u w = ⊥
HasCause ReadFault job u w = (reads_source job ≡ true) × HasRisen u.source.faults w.source.faults
HasCause WriteFault job u w = sink.Rises u.out w.out
HasCause TreeFault job u w = tree.Rises u.tree w.tree
HasCause ScratchFault job u w = HasRisen u.scratch.faults w.scratch.faults
HasCause (Disagree want got) job u w = (want ≢ got) × ((f : Files) → TellsFiles job u f → ⊥)
HasCause Memory job u w = Unit {0}
