-- Which part of a name that a run writes its operator gives. Nothing else of it is absolute, or has a component `..`.
use Rattle.std.specs.Prelude.{◌≡◌, ◌⊎◌, ℕ, List, ◌++◌, codes, bytes_eq, false, true, Some}
use Rattle.std.specs.List.{list_any}
use Rattle.outside.specs.Files.{temp_of}
use Rattle.outside.specs.Names.{IsPatchName, components, is_absolute}
use Rattle.outside.specs.Numbered.{numbered}
use Rattle.patch_options.specs.PlainJob.{PlainOptions}
use Rattle.read_file_patch.specs.declared.derived.Target.{Target}
use Rattle.read_file_patch.specs.Targets.{backup_end, backup_name, below, is_fronted}

-- the text leads to nothing above: it isn't absolute, and no component is `..`
pub record IsInside (text : List ℕ) : Type 0 where
  pub relative : is_absolute text ≡ false
  pub down : list_any (bytes_eq (codes "..")) (components text) ≡ false

-- the file that the operator names, or the output
abbrev pub IsOperand : PlainOptions → List ℕ → Type 0
IsOperand o name = (o.file ≡ Some name) ⊎ (o.output ≡ Some name)

-- one of these, or a name that a patch may give
abbrev pub IsFileName : PlainOptions → List ℕ → Type 0
IsFileName o name = IsOperand o name ⊎ IsPatchName name

-- one of these with an ending, or a text that leads to nothing above
abbrev pub HasEnding : PlainOptions → List ℕ → List ℕ → Type 0
HasEnding o end name = ((file : List ℕ) × (IsOperand o file × (name ≡ file ++ end))) ⊎ IsInside name

-- the operator's reject file, or such a name with `.rej`
abbrev pub IsRejectName : PlainOptions → List ℕ → Type 0
IsRejectName o name = (o.reject ≡ Some name) ⊎ HasEnding o (codes ".rej") name

-- the operator's prefixes stand before such a name
abbrev pub HasFront : PlainOptions → List ℕ → Type 0
HasFront o name = (is_fronted o ≡ true) × ((file : List ℕ) × (IsFileName o file × (name ≡ backup_name o file)))

-- that, or such a name with the operator's suffix or `.orig`
abbrev pub IsBackupName : PlainOptions → List ℕ → Type 0
IsBackupName o name = HasFront o name ⊎ HasEnding o (backup_end false o.suffix) name

-- below the operator's directory, where there is one, stands a name of this kind
abbrev pub IsBelow : (List ℕ → Type 0) → PlainOptions → List ℕ → Type 0
IsBelow P o name = (inner : List ℕ) × (P inner × (name ≡ below o.dir inner))

-- the names of a target; a backup may have a number behind the target's own name
pub record IsGiven (o : PlainOptions) (w : Target) : Type 0 where
  pub own : IsBelow (IsFileName o) o w.name
  pub rejects : IsBelow (IsRejectName o) o w.reject
  pub backups : IsBelow (IsBackupName o) o w.backup ⊎ ((number : ℕ) × (w.backup ≡ numbered w.name number))

-- one of the three names of such a target
abbrev pub IsGivenName : PlainOptions → List ℕ → Type 0
IsGivenName o name = (w : Target) × (IsGiven o w × ((name ≡ w.name) ⊎ ((name ≡ w.reject) ⊎ (name ≡ w.backup))))

-- a target whose backup has a number
abbrev pub with_number : ℕ → Target → Target
with_number number w = record w { backup = numbered w.name number; backup_temp = temp_of (numbered w.name number) }
