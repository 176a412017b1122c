-- The fault of a run for that of a plan.
use Rattle.line_store.specs.declared.fault.OpenFault.{OpenFault}
use Rattle.line_store.specs.declared.fault.OpenFault.TheVariants as open_fault
use Rattle.line_store.specs.declared.fault.LineFault.{LineFault}
use Rattle.line_store.specs.declared.fault.LineFault.TheVariants as line_fault
use Rattle.apply_task.specs.declared.fault.RunFault.{RunFault}
use Rattle.apply_task.specs.declared.fault.RunFault.TheVariants.{Tree, Scratch, LongLine, FileTooLong, Disagree, Memory}

abbrev pub of_open : OpenFault → RunFault
of_open open_fault.Tree = Tree
of_open open_fault.Scratch = Scratch
of_open (open_fault.LongLine line length) = LongLine line length
of_open (open_fault.FileTooLong length) = FileTooLong length
of_open (open_fault.Disagree want got) = Disagree want got
of_open open_fault.Memory = Memory

abbrev pub of_line : LineFault → RunFault
of_line line_fault.Scratch = Scratch
of_line (line_fault.Disagree want got) = Disagree want got
