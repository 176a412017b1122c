-- What a save makes of the files.
use Rattle.std.specs.Prelude.{◌≡◌, ℕ, List, [], ◌∷◌, ◌++◌, is_some, if◌then◌else◌, bytes_eq, Option, None, Some, Result, OnOk, OnErr}
use Rattle.std.specs.FinMap.{get}
use Rattle.outside.specs.Files.{Files}
use Rattle.outside.specs.TreeView.{TreeView, Passes}
use Rattle.outside.specs.Calls.{LastingSealsStay}
use Rattle.outside.specs.Quiet.{IsQuiet, Effect, after_all, HasMade, TellsPrefix, LeavesPrefix}
use Rattle.outside.specs.Quiet.Effect.{Put, Remove}
use Rattle.series_stack.specs.Saves.{Entry}
use Rattle.series_stack.specs.Saves.Entry.{Missing, Held}

-- the file is put, or the name taken away where it is there
abbrev pub effects_of : Entry → Files → List Effect
effects_of (Held name bytes) f = Put name bytes ∷ []
effects_of (Missing name) f = if is_some (get f name) then Remove name ∷ [] else []

-- the effects of entries, each on the files that those before it left
unfoldable pub restoring : List Entry → Files → List Effect
restoring [] f = []
restoring (e ∷ es) f = effects_of e f ++ restoring es (after_all (effects_of e f) f)

-- the files afterwards
abbrev pub restored : List Entry → Files → Files
restored es f = after_all (restoring es f) f

-- ---- in words of its own

-- what the last entry with a name holds of it, where there is one, and what the name stood for else
unfoldable pub saved_at : List Entry → List ℕ → Option (List ℕ) → Option (List ℕ)
saved_at [] q before = before
saved_at (Missing name ∷ es) q before = saved_at es q (if bytes_eq name q then None else before)
saved_at (Held name bytes ∷ es) q before = saved_at es q (if bytes_eq name q then Some bytes else before)

-- ---- the tree over calls that restore

-- the effects are made whole, on the disk too, and reads give just what they make of the files
pub record IsRestored (u w : TreeView) (es : List Entry) (f : Files) : Type 0 where
  pub made : HasMade u w (restoring es f)
  pub told : w.told ≡ Some (restored es f)

-- a first part of the effects
pub record IsPartly (u w : TreeView) (es : List Entry) (f : Files) : Type 0 where
  pub tells : TellsPrefix u w (restoring es f)
  pub leaves : LeavesPrefix u w (restoring es f)

pub record Restores {R E : Type 0} (u w : TreeView) (result : Result R E) (es : List Entry) : Type 0 where
  pub passes : Passes u w
  pub quiet : OnOk result (IsQuiet w)
  pub seals : LastingSealsStay u w
  pub ok : OnOk result ((f : Files) → u.told ≡ Some f → IsRestored u w es f)
  pub err : OnErr result ((f : Files) → u.told ≡ Some f → IsPartly u w es f)
