-- A file that is put at its name by way of a temporary.
use Rattle.std.specs.Prelude.{◌≡◌, ◌⊎◌, ℕ, List, Some, Result, OnOk}
use Rattle.std.specs.FinMap.{insert, remove}
use Rattle.outside.specs.Files.{Files, SameButTemp}
use Rattle.outside.specs.TreeView.{TreeView, IsRun}
use Rattle.outside.specs.Calls.{Becomes, SealsStay}
use Rattle.outside.specs.Quiet.{IsQuiet, LeavesEitherSince}

-- reads give now what they gave before the first, or what this makes of it, but for what the temporary holds
abbrev pub TellsEitherBut : TreeView → TreeView → List ℕ → (Files → Files) → Type 0
TellsEitherBut old new temp change = (f g : Files) → old.told ≡ Some f → new.told ≡ Some g → SameButTemp temp f g ⊎ SameButTemp temp (change f) g

-- a name's file gets these bytes: whole on `Ok`, when the temporary is gone, and at each moment whole or not at all
pub record Puts {R E : Type 0} (old new : TreeView) (result : Result R E) (temp to : List ℕ) (bytes : Files → List ℕ) : Type 0 where
  pub run : IsRun old new result
  pub quiet : OnOk result (IsQuiet new)
  pub ok : OnOk result (Becomes old new (λ f. remove (insert f to (bytes f)) temp))
  pub tells : TellsEitherBut old new temp (λ f. insert f to (bytes f))
  pub since : LeavesEitherSince old new (λ f. insert f to (bytes f))
  pub seals : SealsStay old new temp
