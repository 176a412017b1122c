-- How a file comes into memory.
use Rattle.std.specs.Prelude.{◌≡◌, ℕ, ◌-◌, ◌<◌, List, length, true, Some}
use Rattle.outside.specs.Files.{Files, bytes_at}
use Rattle.outside.specs.TreeView.{TreeView}
use Rattle.line_store.specs.declared.fault.OpenFault.{OpenFault}
use Rattle.line_store.specs.declared.fault.OpenFault.TheVariants.{Tree, Scratch, LongLine, FileTooLong, Disagree, Memory}
use Rattle.line_store.specs.Store.{Seen}
use Rattle.line_store.specs.Taking.{refusal, HasOpenCause}

-- the file has so many bytes, where that is told
abbrev pub HasLength : TreeView → List ℕ → ℕ → Type 0
HasLength t name n = (f : Files) → t.told ≡ Some f → length (bytes_at f name) ≡ n

-- these are the bytes of the file, where they are told
abbrev pub IsFile : TreeView → List ℕ → List ℕ → Type 0
IsFile t name bytes = (f : Files) → t.told ≡ Some f → bytes ≡ bytes_at f name

-- the cause of a fault, for any plan with this buffer that takes memory
abbrev pub HasTextCause : OpenFault → ℕ → TreeView → TreeView → List ℕ → Type 0
HasTextCause e size t u name = (before after : Seen) → before.size ≡ size → before.needs_memory ≡ true → HasOpenCause e before after t u name

-- why a text is not cut into lines: it has a line that is too long, or memory ran out
abbrev pub IsCutFault : ℕ → List ℕ → OpenFault → Type 0
IsCutFault size bytes Tree = ⊥
IsCutFault size bytes Scratch = ⊥
IsCutFault size bytes (LongLine line length) = (size - 4 < length) × (refusal size bytes ≡ Some (LongLine line length))
IsCutFault size bytes (FileTooLong length) = ⊥
IsCutFault size bytes (Disagree want got) = ⊥
IsCutFault size bytes Memory = Unit {0}

-- where fewer bytes came than a file was said to have, that number stands first
abbrev pub HasWanted : ℕ → OpenFault → Type 0
HasWanted length Tree = Unit {0}
HasWanted length Scratch = Unit {0}
HasWanted length (LongLine line long) = Unit {0}
HasWanted length (FileTooLong long) = Unit {0}
HasWanted length (Disagree want got) = (want ≡ length) × (got < length)
HasWanted length Memory = Unit {0}
