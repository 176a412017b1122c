-- The answers of a run: from which faults they come, and with which status the run ends.
use Rattle.std.specs.Prelude.{ℕ, Bool, true, false}
use Rattle.patch_options.specs.declared.options.WordFault.{WordFault}
use Rattle.patch_options.specs.declared.options.WordFault.TheVariants as words
use Rattle.cli_run_answers.specs.declared.fault.InputFault.{InputFault}
use Rattle.cli_run_answers.specs.declared.fault.InputFault.TheVariants as input
use Rattle.patch_set.specs.declared.fault.SetFault.{SetFault}
use Rattle.patch_set.specs.declared.fault.SetFault.TheVariants as set
use Rattle.apply_task.specs.declared.fault.RunFault.{RunFault}
use Rattle.apply_task.specs.declared.fault.RunFault.TheVariants as runs
use Rattle.cli_run_answers.specs.declared.why.Why.{Why}
use Rattle.cli_run_answers.specs.declared.why.Why.TheVariants.{Done, Rejected, Usage, Malformed, Garbage, EdReverse, OutMany, Reserved, NoPatchFile, TooLong, LongLine, FileTooLong, ReadFault, WriteFault, TreeFault, ScratchFault, Disagree, Memory}

abbrev pub of_words : WordFault → Why
of_words words.Usage = Usage
of_words words.Memory = Memory

abbrev pub of_input : InputFault → Why
of_input input.NoPatchFile = NoPatchFile
of_input input.TooLong = TooLong
of_input input.Source = ReadFault
of_input input.Tree = TreeFault
of_input (input.Disagree want got) = Disagree want got
of_input input.Memory = Memory

abbrev pub of_set : SetFault → Why
of_set (set.Malformed line kind) = Malformed line kind
of_set set.Garbage = Garbage
of_set set.TooLong = TooLong
of_set (set.OutMany count) = OutMany count
of_set (set.EdReverse line) = EdReverse line
of_set (set.Reserved line) = Reserved line
of_set set.Memory = Memory

abbrev pub of_run : RunFault → Why
of_run runs.Tree = TreeFault
of_run runs.Write = WriteFault
of_run runs.Scratch = ScratchFault
of_run (runs.LongLine line length) = LongLine line length
of_run (runs.FileTooLong length) = FileTooLong length
of_run (runs.Disagree want got) = Disagree want got
of_run runs.Memory = Memory

-- a device failed
abbrev pub is_fault : Why → Bool
is_fault ReadFault = true
is_fault WriteFault = true
is_fault TreeFault = true
is_fault ScratchFault = true
is_fault why = false

-- the command's own answer: no device failed, no two numbers differ, and memory didn't run out
abbrev pub is_own : Why → Bool
is_own ReadFault = false
is_own WriteFault = false
is_own TreeFault = false
is_own ScratchFault = false
is_own (Disagree want got) = false
is_own Memory = false
is_own why = true

-- every file patch had its turn
abbrev pub is_ended : Why → Bool
is_ended Done = true
is_ended Rejected = true
is_ended why = false

-- the command came to its end, or to a file that isn't taken
abbrev pub is_through : Why → Bool
is_through Done = true
is_through Rejected = true
is_through (LongLine line length) = true
is_through (FileTooLong length) = true
is_through why = false

-- a refusal, or a fault of standard input: it comes before anything is said or changed
abbrev pub is_early : Why → Bool
is_early Done = false
is_early Rejected = false
is_early (LongLine line length) = false
is_early (FileTooLong length) = false
is_early WriteFault = false
is_early TreeFault = false
is_early ScratchFault = false
is_early (Disagree want got) = false
is_early Memory = false
is_early why = true

-- the exit status
abbrev pub exit_status : Why → ℕ
exit_status Done = 0
exit_status Rejected = 1
exit_status why = 2
