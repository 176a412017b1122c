-- The answers that the faults of a stack's parts are.
use Rattle.series_stack.specs.declared.fault.StackFault.{StackFault}
use Rattle.series_stack.specs.declared.fault.StackFault.TheVariants as stack
use Rattle.stack_state.specs.declared.fault.StateFault.{StateFault}
use Rattle.stack_state.specs.declared.fault.StateFault.TheVariants as state
use Rattle.stack_patch.specs.declared.PushFault.{PushFault}
use Rattle.stack_patch.specs.declared.PushFault.TheVariants.{Input, Set}
use Rattle.cli_run_answers.specs.declared.why.Why.{Why}
use Rattle.cli_run_answers.specs.declared.why.Why.TheVariants.{NoPatchFile, FileTooLong, BadState, TreeFault, Disagree, Memory}
use Rattle.cli_run_answers.specs.Answers.{of_input, of_set}

abbrev pub of_state : StateFault → Why
of_state state.NoSeries = NoPatchFile
of_state (state.Bad file) = BadState file
of_state state.Tree = TreeFault
of_state (state.Disagree want got) = Disagree want got
of_state state.Memory = Memory

abbrev pub of_push : PushFault → Why
of_push (Input fault) = of_input fault
of_push (Set fault) = of_set fault

-- of a save that isn't taken
abbrev pub of_save : StackFault → Why
of_save (stack.BadState file) = Memory
of_save (stack.FileTooLong size) = FileTooLong size
of_save stack.Tree = TreeFault
of_save (stack.Disagree want got) = Disagree want got
of_save stack.Memory = Memory
