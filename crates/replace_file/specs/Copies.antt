-- A temporary that gets the bytes of another file.
use Rattle.std.specs.Prelude.{◌≡◌, ◌≤◌, ℕ, List, ◌++◌, take, drop, Some}
use Rattle.outside.specs.Files.{Files, bytes_at}
use Rattle.outside.specs.TreeView.{TreeView}
use Rattle.outside.specs.Calls.{IsThere, SealsStay}
use Rattle.outside.specs.Quiet.{WorksOn}

-- the temporary is there, and holds behind what it held so many of the other file's bytes, from a place on
pub record Copies (old new : TreeView) (temp from : List ℕ) (at count : ℕ) : Type 0 where
  pub there : IsThere new temp
  pub bytes : (f g : Files) → old.told ≡ Some f → new.told ≡ Some g → bytes_at g temp ≡ bytes_at f temp ++ take count (drop at (bytes_at f from))

-- the first bytes were copied, and nothing else was done
pub record HasCopied (old new : TreeView) (temp from : List ℕ) (count size : ℕ) : Type 0 where
  pub works : WorksOn old new temp
  pub seals : SealsStay old new temp
  pub copies : Copies old new temp from 0 count
  pub within : count ≤ size
