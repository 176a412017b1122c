-- What an answer of a filter says whatever is told: of the words, of the text, and of the devices before and after.
use Rattle.std.specs.Prelude.{◌≡◌, ◌≢◌, ◌⊎◌, None, Result, Err}
use Rattle.outside.specs.Faults.{HasRisen}
use Rattle.outside.specs.TreeView as tree
use Rattle.outside.specs.SinkView as sink
use Rattle.patch_options.specs.declared.options.WordFault.{WordFault}
use Rattle.patch_options.specs.declared.options.WordFault.TheVariants as words
use Rattle.patch_set.specs.declared.fault.SetFault.TheVariants as set
use Rattle.filter_whole_text.specs.declared.fault.FilterFault.TheVariants as faults
use Rattle.cli_tool_words.specs.PlainJobs.{PlainToolJob}
use Rattle.cli_run_answers.specs.declared.why.Why.{Why}
use Rattle.cli_run_answers.specs.declared.why.Why.TheVariants.{Done, Rejected, Usage, Malformed, Garbage, EdReverse, OutMany, Reserved, NoPatchFile, TooLong, LongLine, FileTooLong, BadPattern, NoContext, Unfit, BadState, StackEnd, StackName, ReadFault, WriteFault, TreeFault, ScratchFault, Disagree, Memory}
use Rattle.format_convert.specs.declared.fault.ConvertFault.TheVariants as convert
use Rattle.cli_filter.specs.Jobs.{AsksFor, ReadsSource, NamesFile, MayFault, MayBeRefused, MayMisfit}
use Rattle.cli_filter.specs.Worlds.{World}

abbrev pub HasCause : Why → Result PlainToolJob WordFault → World → World → Type 0
HasCause Done job u w = AsksFor job (λ j. Unit {0})
HasCause Usage job u w = job ≡ Err words.Usage
HasCause NoPatchFile job u w = AsksFor job NamesFile
HasCause TooLong job u w = AsksFor job (λ j. Unit {0})
HasCause (Malformed line kind) job u w = AsksFor job (λ j. MayFault j (faults.Set (set.Malformed line kind)))
HasCause Garbage job u w = AsksFor job (λ j. MayFault j (faults.Set set.Garbage))
HasCause (EdReverse line) job u w = AsksFor job (λ j. MayFault j (faults.Set (set.EdReverse line)))
HasCause (OutMany count) job u w = AsksFor job (λ j. MayFault j (faults.Set (set.OutMany count)))
HasCause (Reserved line) job u w = AsksFor job (λ j. MayFault j (faults.Set (set.Reserved line)))
HasCause BadPattern job u w = AsksFor job (MayBeRefused u.finder)
HasCause (NoContext line) job u w = AsksFor job (λ j. MayMisfit j (convert.NoContext line))
HasCause (Unfit line) job u w = AsksFor job (λ j. MayFault j (faults.Unfit line) ⊎ MayMisfit j (convert.Unfit line))
HasCause ReadFault job u w = ReadsSource job × HasRisen u.source.faults w.source.faults
HasCause WriteFault job u w = sink.Rises u.out w.out
HasCause TreeFault job u w = tree.Rises u.tree w.tree
HasCause (Disagree want got) job u w = AsksFor job NamesFile × (want ≢ got) × (u.tree.told ≡ None)
HasCause Memory job u w = Unit {0}
-- the others are answers of other tools alone
HasCause Rejected job u w = ⊥
HasCause (LongLine line length) job u w = ⊥
HasCause (FileTooLong length) job u w = ⊥
HasCause (BadState file) job u w = ⊥
HasCause (StackEnd applied) job u w = ⊥
HasCause (StackName line) job u w = ⊥
HasCause ScratchFault job u w = ⊥
