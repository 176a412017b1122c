-- What a fault says.
use Rattle.std.specs.Prelude.{◌≡◌, ◌⊎◌}
use Rattle.outside.specs.TreeView.{TreeView, Rises}
use Rattle.series_stack.specs.declared.fault.StateFile.{StateFile}
use Rattle.series_stack.specs.declared.fault.StackFault.{StackFault}
use Rattle.series_stack.specs.declared.fault.StackFault.TheVariants.{BadState, Tree, Memory}

-- memory ran out, or this file of the stack isn't of its form
abbrev pub IsBadOr : StackFault → StateFile → Type 0 → Type 0
IsBadOr e file bad = (e ≡ Memory) ⊎ ((e ≡ BadState file) × bad)

-- memory ran out, or a call of the tree failed
abbrev pub HasFailed : StackFault → TreeView → TreeView → Type 0
HasFailed e u w = (e ≡ Memory) ⊎ ((e ≡ Tree) × Rises u w)
