-- Of what sort the answers of a run are.
use Rattle.cli_run_answers.specs.declared.why.Why.{Why}
use Rattle.cli_run_answers.specs.declared.why.Why.TheVariants.{Done, Rejected, Usage, Malformed, Garbage, EdReverse, OutMany, Reserved, NoPatchFile, TooLong, LongLine, FileTooLong, BadPattern, NoContext, Unfit, BadState, StackEnd, StackName, ReadFault, WriteFault, TreeFault, ScratchFault, Disagree, Memory}

pub data Sort : Type 0 where
  -- every file patch had its turn
  ended : Sort
  -- the run ends at a file that isn't taken
  halted : Sort
  -- a refusal before the first change
  refusal : Sort
  -- standard input failed, before the first change
  unread : Sort
  -- another device failed, or two numbers differ
  broken : Sort
  -- memory ran out
  starved : Sort

abbrev pub sort_of : Why → Sort
sort_of Done = ended
sort_of Rejected = ended
sort_of (LongLine line length) = halted
sort_of (FileTooLong length) = halted
sort_of Usage = refusal
sort_of NoPatchFile = refusal
sort_of TooLong = refusal
sort_of (Malformed line kind) = refusal
sort_of Garbage = refusal
sort_of (EdReverse line) = refusal
sort_of (OutMany count) = refusal
sort_of (Reserved line) = refusal
sort_of BadPattern = refusal
sort_of (NoContext line) = refusal
sort_of (Unfit line) = refusal
sort_of (BadState file) = refusal
sort_of (StackEnd applied) = refusal
sort_of (StackName line) = refusal
sort_of ReadFault = unread
sort_of WriteFault = broken
sort_of TreeFault = broken
sort_of ScratchFault = broken
sort_of (Disagree want got) = broken
sort_of Memory = starved

-- an answer before the first change
abbrev pub IsEarly : Sort → Type 0
IsEarly ended = ⊥
IsEarly halted = ⊥
IsEarly refusal = Unit {0}
IsEarly unread = Unit {0}
IsEarly broken = ⊥
IsEarly starved = ⊥
