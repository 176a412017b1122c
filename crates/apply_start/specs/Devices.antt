-- The tree, the plan and the sink over a part of a run.
use Rattle.std.specs.Prelude.{◌≡◌, ◌≢◌, ℕ, ◌-◌, ◌^◌, ◌<◌, ◌≤◌, List, true, is_some, Option, None, Some}
use Rattle.outside.specs.Files.{Files}
use Rattle.outside.specs.TreeView.{TreeView}
use Rattle.outside.specs.TreeView as tree
use Rattle.outside.specs.SinkView.{SinkView}
use Rattle.outside.specs.SinkView as sink
use Rattle.line_store.specs.Store.{Seen}
use Rattle.line_store.specs.Store as store
use Rattle.apply_task.specs.declared.fault.RunFault.{RunFault}
use Rattle.apply_task.specs.declared.fault.RunFault.TheVariants.{Tree, Write, Scratch, LongLine, FileTooLong, Disagree, Memory}

-- the tree tells these files, and the plan's scratch its bytes
abbrev pub Told : TreeView → Seen → Files → Type 0
Told u a f = (u.told ≡ Some f) × (is_some a.scratch ≡ true)

-- what a fault says of the devices before and after
abbrev pub HasRunCause : RunFault → TreeView → TreeView → Seen → Seen → SinkView → SinkView → Type 0
HasRunCause Tree u w a b c d = tree.Rises u w
HasRunCause Write u w a b c d = sink.Rises c d
HasRunCause Scratch u w a b c d = store.Rises a b
HasRunCause (LongLine line length) u w a b c d = a.size - 4 < length
HasRunCause (FileTooLong length) u w a b c d = 2 ^ 40 ≤ length
HasRunCause (Disagree want got) u w a b c d = (want ≢ got) × ((f : Files) → Told u a f → ⊥)
HasRunCause Memory u w a b c d = a.needs_memory ≡ true

-- what the scratch holds once a file was taken, or none
abbrev pub scratch_with : (ℕ → List ℕ → Option (List ℕ) → Option (List ℕ)) → ℕ → Option (List ℕ) → Option (List ℕ) → Option (List ℕ)
scratch_with scratch_after size None before = before
scratch_with scratch_after size (Some bytes) before = scratch_after size bytes before
