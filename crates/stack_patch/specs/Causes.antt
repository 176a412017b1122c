-- Why the patch of a push isn't read.
use Rattle.std.specs.Prelude.{◌≡◌, ◌⊎◌, List, ℕ, Some}
use Rattle.std.specs.FinMap.{get}
use Rattle.outside.specs.Files.{Files}
use Rattle.outside.specs.TreeView.{TreeView}
use Rattle.cli_run_answers.specs.declared.fault.InputFault.TheVariants.{NoPatchFile, TooLong, Source, Tree, Disagree}
use Rattle.cli_run_answers.specs.declared.fault.InputFault.TheVariants as inputs
use Rattle.cli_run_answers.specs.Input.{HasFileCause}
use Rattle.read_clean_text.specs.Reading.{clean_of}
use Rattle.patch_set.specs.declared.fault.SetFault.TheVariants as faults
use Rattle.patch_set.specs.Refusals.{refusal}
use Rattle.stack_patch.specs.Reading.{push_options}
use Rattle.stack_patch.specs.declared.PushFault.{PushFault}
use Rattle.stack_patch.specs.declared.PushFault.TheVariants.{Input, Set}

-- the file isn't read; or its text is refused so once it is clean, or memory ran out
abbrev pub HasCause : PushFault → TreeView → TreeView → List ℕ → Type 0
HasCause (Input fault) u w name = HasFileCause fault u w name
HasCause (Set fault) u w name = (fault ≡ faults.Memory) ⊎ ((f : Files) → u.told ≡ Some f → (text : List ℕ) × ((get f name ≡ Some text) × (refusal push_options (clean_of push_options text) ≡ Some fault)))

-- of a text alone
abbrev pub IsRefusedSo : PushFault → List ℕ → Type 0
IsRefusedSo (Input fault) text = ⊥
IsRefusedSo (Set fault) text = (fault ≡ faults.Memory) ⊎ (refusal push_options (clean_of push_options text) ≡ Some fault)

-- the file is missing, or its text is refused; neither a device nor memory failed
abbrev pub IsRefusal : PushFault → Type 0
IsRefusal (Input NoPatchFile) = Unit {0}
IsRefusal (Input TooLong) = Unit {0}
IsRefusal (Input Source) = ⊥
IsRefusal (Input Tree) = ⊥
IsRefusal (Input (Disagree want got)) = ⊥
IsRefusal (Input inputs.Memory) = ⊥
IsRefusal (Set (faults.Malformed line kind)) = Unit {0}
IsRefusal (Set faults.Garbage) = Unit {0}
IsRefusal (Set faults.TooLong) = Unit {0}
IsRefusal (Set (faults.OutMany count)) = Unit {0}
IsRefusal (Set (faults.EdReverse line)) = Unit {0}
IsRefusal (Set (faults.Reserved line)) = Unit {0}
IsRefusal (Set faults.Memory) = ⊥

-- whatever is told: some text is refused so, once it is clean, or memory ran out
abbrev pub RefusesSome : PushFault → Type 0
RefusesSome (Input fault) = Unit {0}
RefusesSome (Set fault) = (text : List ℕ) × ((fault ≡ faults.Memory) ⊎ (refusal push_options (clean_of push_options text) ≡ Some fault))
