-- A set whose targets got other backups.
use Rattle.std.specs.Prelude.{◌≡◌, ℕ, List, [], ◌∷◌, Option, None, Some}
use Rattle.outside.specs.Files.{Files}
use Rattle.outside.specs.TreeView.{TreeView, Rises}
use Rattle.patch_options.specs.declared.options.BackupNumbers.{BackupNumbers}
use Rattle.read_file_patch.specs.declared.FilePatch.{FilePatch}
use Rattle.read_file_patch.specs.declared.derived.Target.{Target}
use Rattle.patch_set.specs.SetView.{SetView, IsFresh}
use Rattle.patch_set.specs.Skipped.{skipped_changes}
use Rattle.patch_set.specs.declared.names.NamedPatches.{NamedPatches}
use Rattle.apply_backup_numbers.specs.Numbering.{with_number, numbered_target}
use Rattle.apply_backup_numbers.specs.declared.NumberFault.{NumberFault}
use Rattle.apply_backup_numbers.specs.declared.NumberFault.TheVariants.{Tree, Memory}

-- pairs of two lists, one behind the other
abbrev pub Each : {A : Type 0} → (A → A → Type 0) → List A → List A → Type 0
Each R [] [] = Unit {0}
Each R [] (y ∷ ys) = ⊥
Each R (x ∷ xs) [] = ⊥
Each R (x ∷ xs) (y ∷ ys) = R x y × Each R xs ys

-- a target, and what it is with its next backup: another name for that at most, and where it is told the one that comes next
pub record IsNumbered (numbers : BackupNumbers) (told : Option Files) (t u : Target) : Type 0 where
  pub number : Option ℕ
  pub same : u ≡ with_number number t
  pub next : (f : Files) → told ≡ Some f → u ≡ numbered_target numbers f t

abbrev pub IsNumberedIf : BackupNumbers → Option Files → Option Target → Option Target → Type 0
IsNumberedIf numbers told None None = Unit {0}
IsNumberedIf numbers told None (Some u) = ⊥
IsNumberedIf numbers told (Some t) None = ⊥
IsNumberedIf numbers told (Some t) (Some u) = IsNumbered numbers told t u

-- a file patch with such targets, all else staying
pub record IsRetargeted (numbers : BackupNumbers) (told : Option Files) (p q : FilePatch) : Type 0 where
  pub same : q ≡ record p { targets = q.targets }
  pub targets : Each (IsNumbered numbers told) p.targets.items q.targets.items

pub record AreRetargeted (numbers : BackupNumbers) (told : Option Files) (old new : NamedPatches) : Type 0 where
  pub patches : Each (IsRetargeted numbers told) old.patches.items new.patches.items
  pub output : IsNumberedIf numbers told old.output new.output

-- a set of the same file patches with such targets, of which nothing was tried yet
pub record IsRenumbered (numbers : BackupNumbers) (told : Option Files) (v w : SetView) : Type 0 where
  pub text : w.text ≡ v.text
  pub ways : w.ways ≡ v.ways
  pub patches : Each (IsRetargeted numbers told) v.patches w.patches
  pub output : IsNumberedIf numbers told v.output w.output
  pub skipped : w.skipped ≡ skipped_changes v.ways v.text
  pub fresh : IsFresh w

-- why the numbers aren't known
abbrev pub HasCause : NumberFault → TreeView → TreeView → Type 0
HasCause Tree old new = Rises old new
HasCause Memory old new = Unit {0}
