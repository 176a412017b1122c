-- What came of trying the hunks of a file patch.
use Rattle.std.specs.Prelude.{◌≡◌, ◌≢◌, ℕ, List, Bool, true, false, Option, None, Some}
use Rattle.outside.specs.TreeView.{TreeView}
use Rattle.outside.specs.TreeView as tree
use Rattle.line_store.specs.Store.{Seen}
use Rattle.line_store.specs.Store as store
use Rattle.replace_file.specs.declared.temp.Temp.{Temp}
use Rattle.apply_task.specs.declared.fault.RunFault.{RunFault}
use Rattle.apply_task.specs.declared.fault.RunFault.TheVariants as faults

-- what a fault says of the plan alone before and after
abbrev pub HasLineCause : RunFault → Seen → Seen → Type 0
HasLineCause faults.Tree a b = ⊥
HasLineCause faults.Write a b = ⊥
HasLineCause faults.Scratch a b = store.Rises a b
HasLineCause (faults.LongLine line length) a b = ⊥
HasLineCause (faults.FileTooLong length) a b = ⊥
HasLineCause (faults.Disagree want got) a b = (want ≢ got) × (a.told ≡ None)
HasLineCause faults.Memory a b = ⊥

-- what a fault says of the tree and the plan before and after
abbrev pub HasTryCause : RunFault → TreeView → TreeView → Seen → Seen → Type 0
HasTryCause faults.Tree u w a b = tree.Rises u w
HasTryCause faults.Write u w a b = ⊥
HasTryCause faults.Scratch u w a b = store.Rises a b
HasTryCause (faults.LongLine line length) u w a b = ⊥
HasTryCause (faults.FileTooLong length) u w a b = ⊥
HasTryCause (faults.Disagree want got) u w a b = (want ≢ got) × (a.told ≡ None)
HasTryCause faults.Memory u w a b = ⊥

-- a temporary was begun, but in a dry run
abbrev pub IsBegun : Bool → Option Temp → List ℕ → Type 0
IsBegun true None name = Unit {0}
IsBegun true (Some begun) name = ⊥
IsBegun false None name = ⊥
IsBegun false (Some begun) name = begun.name.now ≡ name
