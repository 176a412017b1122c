-- What a fault says of a state that is read.
use Rattle.std.specs.Prelude.{◌≡◌, ℕ, ◌<◌, None, Some, Result, Ok, Err}
use Rattle.outside.specs.Files.{Files}
use Rattle.outside.specs.TreeView.{TreeView, Rises}
use Rattle.series_stack.specs.declared.fault.StackFault.{StackFault}
use Rattle.series_stack.specs.declared.fault.StackFault.TheVariants as stack
use Rattle.series_stack.specs.Stack.{Refusal}
use Rattle.series_stack.specs.Stack.Refusal.{NoSeries as Unlisted, Bad as Broken}
use Rattle.stack_state.specs.declared.fault.StateFault.{StateFault}
use Rattle.stack_state.specs.declared.fault.StateFault.TheVariants.{NoSeries, Bad, Tree, Disagree, Memory}

-- a refusal is that of the files that the tree tells; else a call of the tree failed, a file isn't told, or memory ran out
abbrev pub HasCause : {X : Type 0} → StateFault → TreeView → TreeView → (Files → Result X Refusal) → Type 0
HasCause NoSeries u w state = (f : Files) → u.told ≡ Some f → state f ≡ Err Unlisted
HasCause (Bad file) u w state = (f : Files) → u.told ≡ Some f → state f ≡ Err (Broken file)
HasCause Tree u w state = Rises u w
HasCause (Disagree want got) u w state = (got < want) × (u.told ≡ None)
HasCause Memory u w state = Unit {0}

-- the same where no file is refused
abbrev pub HasReadCause : StateFault → TreeView → TreeView → Type 0
HasReadCause NoSeries u w = ⊥
HasReadCause (Bad file) u w = ⊥
HasReadCause Tree u w = Rises u w
HasReadCause (Disagree want got) u w = (got < want) × (u.told ≡ None)
HasReadCause Memory u w = Unit {0}

-- where the fault has the size of a file, that is this one
abbrev pub HasSize : ℕ → StateFault → Type 0
HasSize size NoSeries = Unit {0}
HasSize size (Bad file) = Unit {0}
HasSize size Tree = Unit {0}
HasSize size (Disagree want got) = want ≡ size
HasSize size Memory = Unit {0}

-- the same fault, of one who only looks at texts
abbrev pub of_stack : StackFault → StateFault
of_stack (stack.BadState file) = Bad file
of_stack (stack.FileTooLong size) = Memory
of_stack stack.Tree = Memory
of_stack (stack.Disagree want got) = Memory
of_stack stack.Memory = Memory
