-- The patch text of a run: the bytes of a file of the tree, or what the source has left.
use Rattle.std.specs.Prelude.{◌≡◌, ◌≢◌, ℕ, ◌<◌, ◌≤◌, List, [], ◌++◌, length, drop, nat_le, if◌then◌else◌, Option, Some, None, Result, Ok, Err}
use Rattle.std.specs.FinMap.{get}
use Rattle.outside.specs.Faults.{HasRisen}
use Rattle.outside.specs.Files.{Files}
use Rattle.outside.specs.TreeView.{TreeView, Rises}
use Rattle.outside.specs.SourceView.{SourceView, SourcePasses}
use Rattle.patch_options.specs.declared.options.Input.{Input}
use Rattle.patch_options.specs.declared.options.Input.TheVariants.{Standard, File}
use Rattle.read_file_patch.specs.Targets.{below}
use Rattle.cli_run_answers.specs.declared.fault.InputFault.{InputFault}
use Rattle.cli_run_answers.specs.declared.fault.InputFault.TheVariants.{NoPatchFile, TooLong, Source, Tree, Disagree, Memory}

-- the longest patch text, in bytes
abbrev pub longest : ℕ
longest = 268435456

-- the bytes that an input stands for, over the files and what the source has left; none where the file below the directory is missing
abbrev pub input_bytes : Input → Option (List ℕ) → Files → List ℕ → Option (List ℕ)
input_bytes Standard dir files left = Some left
input_bytes (File name) dir files left = get files (below dir name)

-- the patch text that these bytes are, or why they are none
abbrev pub answer_of : Option (List ℕ) → Result (List ℕ) InputFault
answer_of None = Err NoPatchFile
answer_of (Some bytes) = if nat_le (length bytes) longest then Ok bytes else Err TooLong

abbrev pub IsStandard : Input → Type 0
IsStandard Standard = Unit {0}
IsStandard (File name) = ⊥

abbrev pub IsFile : Input → Type 0
IsFile Standard = ⊥
IsFile (File name) = Unit {0}

-- what the input is read from is told: these files, or this rest of the source
abbrev pub IsTold : Input → TreeView → SourceView → Files → List ℕ → Type 0
IsTold Standard t s files left = s.told ≡ Some left
IsTold (File name) t s files left = t.told ≡ Some files

-- where it is told, the input has this answer
abbrev pub IsAnswer : Result (List ℕ) InputFault → Input → Option (List ℕ) → TreeView → SourceView → Type 0
IsAnswer answer input dir t s = (files : Files) (left : List ℕ) → IsTold input t s files left → answer_of (input_bytes input dir files left) ≡ answer

-- what a fault says of the input, and of tree and source before and after the call
abbrev pub HasCause : InputFault → Input → Option (List ℕ) → TreeView → TreeView → SourceView → SourceView → Type 0
HasCause NoPatchFile input dir t u s r = IsFile input × IsAnswer (Err NoPatchFile) input dir t s
HasCause TooLong input dir t u s r = IsAnswer (Err TooLong) input dir t s
HasCause Source input dir t u s r = IsStandard input × HasRisen s.faults r.faults
HasCause Tree input dir t u s r = IsFile input × Rises t u
HasCause (Disagree want got) input dir t u s r = IsFile input × (want ≢ got) × (t.told ≡ None)
HasCause Memory input dir t u s r = Unit {0}

-- the same of the file of a name alone
abbrev pub HasFileCause : InputFault → TreeView → TreeView → List ℕ → Type 0
HasFileCause NoPatchFile t u name = (f : Files) → t.told ≡ Some f → answer_of (get f name) ≡ Err NoPatchFile
HasFileCause TooLong t u name = (f : Files) → t.told ≡ Some f → answer_of (get f name) ≡ Err TooLong
HasFileCause Source t u name = ⊥
HasFileCause Tree t u name = Rises t u
HasFileCause (Disagree want got) t u name = (want ≢ got) × (t.told ≡ None)
HasFileCause Memory t u name = Unit {0}

-- where fewer bytes came than a file was said to have, that number stands first
abbrev pub HasWanted : ℕ → InputFault → Type 0
HasWanted size NoPatchFile = Unit {0}
HasWanted size TooLong = Unit {0}
HasWanted size Source = Unit {0}
HasWanted size Tree = Unit {0}
HasWanted size (Disagree want got) = (want ≡ size) × (got < size)
HasWanted size Memory = Unit {0}

-- and of the source alone
abbrev pub HasSourceCause : InputFault → SourceView → SourceView → Type 0
HasSourceCause NoPatchFile s r = ⊥
HasSourceCause TooLong s r = (left : List ℕ) → s.told ≡ Some left → answer_of (Some left) ≡ Err TooLong
HasSourceCause Source s r = HasRisen s.faults r.faults
HasSourceCause Tree s r = ⊥
HasSourceCause (Disagree want got) s r = ⊥
HasSourceCause Memory s r = Unit {0}

-- where the source tells it, at most so many bytes of what was left are taken
abbrev pub TakesAtMost : ℕ → SourceView → SourceView → Type 0
TakesAtMost most s r = (left : List ℕ) → s.told ≡ Some left → (n : ℕ) × (n ≤ most) × (r.told ≡ Some (drop n left))

-- the bytes are the first of what was left, and the rest is left
pub record Takes (s r : SourceView) (bytes : List ℕ) : Type 0 where
  pub passes : SourcePasses s r
  pub told : (left : List ℕ) → s.told ≡ Some left → (rest : List ℕ) × (left ≡ bytes ++ rest) × (r.told ≡ Some rest)

-- nothing is left
abbrev pub IsAtEnd : SourceView → Type 0
IsAtEnd s = (left : List ℕ) → s.told ≡ Some left → left ≡ []
