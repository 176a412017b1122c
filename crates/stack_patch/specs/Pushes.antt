-- The set of file patches that a push applies.
use Rattle.std.specs.Prelude.{◌≡◌, ℕ, List, Some}
use Rattle.std.specs.FinMap.{get}
use Rattle.outside.specs.Files.{Files}
use Rattle.outside.specs.TreeView.{TreeView}
use Rattle.read_clean_text.specs.Reading.{clean_of}
use Rattle.patch_set.specs.SetView.{SetView, IsRead}
use Rattle.stack_patch.specs.Reading.{push_options, patch_of_set, read_patch}

-- the set is read from this text, once it is clean, and does what the patch of the text does
pub record IsPushed (given : List ℕ) (v : SetView) : Type 0 where
  pub read : IsRead push_options (clean_of push_options given) v
  pub patch : read_patch (Some given) ≡ Some (patch_of_set v)

-- from the text that the file holds
pub record IsPush (u : TreeView) (name : List ℕ) (v : SetView) : Type 0 where
  pub given : List ℕ
  pub is : IsPushed given v
  pub held : (f : Files) → u.told ≡ Some f → get f name ≡ Some given
