-- What names stand for, as a save that is taken, or why none is.
use Rattle.std.specs.Prelude.{◌≡◌, ℕ, ◌^◌, ◌<◌, ◌≤◌, List, [], ◌∷◌, ◌++◌, length, map, true, nat_lt, if◌then◌else◌, Option, None, Some, option_map}
use Rattle.std.specs.List.{AllByRecursion}
use Rattle.std.specs.FinMap.{get}
use Rattle.outside.specs.Files.{Files}
use Rattle.outside.specs.TreeView.{TreeView, Rises}
use Rattle.series_stack.specs.declared.fault.StackFault.{StackFault}
use Rattle.series_stack.specs.declared.fault.StackFault.TheVariants.{BadState, FileTooLong, Tree, Disagree, Memory}
use Rattle.series_stack.specs.Saves.{Entry, name_of, entry_text, save_text, is_saved, IsShort}
use Rattle.series_stack.specs.Saves.Entry.{Missing, Held}
use Rattle.series_stack.specs.Undoing.{entries_at}

-- the size of the first file that is too long for a save
unfoldable pub too_long : List Entry → Option ℕ
too_long [] = None
too_long (Missing name ∷ es) = too_long es
too_long (Held name bytes ∷ es) = if nat_lt (length bytes) (2 ^ 32) then too_long es else Some (length bytes)

-- each may be saved
abbrev pub AreSaved : List (List ℕ) → Type 0
AreSaved names = AllByRecursion (λ n. is_saved n ≡ true) names

-- the save of one entry for each of these names
pub record IsSaveOf (names : List (List ℕ)) (bytes : List ℕ) : Type 0 where
  pub entries : List Entry
  pub named : map name_of entries ≡ names
  pub short : AllByRecursion IsShort entries
  pub text : bytes ≡ save_text entries

-- a text with one entry more, of this name
pub record HasEntryMore (old new name : List ℕ) : Type 0 where
  pub entry : Entry
  pub named : name_of entry ≡ name
  pub short : IsShort entry
  pub text : new ≡ old ++ entry_text entry

-- what a fault says of the names, and of the tree before and after
abbrev pub HasTakeCause : StackFault → TreeView → TreeView → List (List ℕ) → Type 0
HasTakeCause (BadState file) u w names = ⊥
HasTakeCause (FileTooLong size) u w names = (2 ^ 32 ≤ size) × ((f : Files) → u.told ≡ Some f → too_long (entries_at f names) ≡ Some size)
HasTakeCause Tree u w names = Rises u w
HasTakeCause (Disagree want got) u w names = (got < want) × (u.told ≡ None)
HasTakeCause Memory u w names = Unit {0}

-- the same of one name
abbrev pub HasEntryCause : StackFault → TreeView → TreeView → List ℕ → Type 0
HasEntryCause (BadState file) u w name = ⊥
HasEntryCause (FileTooLong size) u w name = (2 ^ 32 ≤ size) × ((f : Files) → u.told ≡ Some f → option_map length (get f name) ≡ Some size)
HasEntryCause Tree u w name = Rises u w
HasEntryCause (Disagree want got) u w name = (got < want) × (u.told ≡ None)
HasEntryCause Memory u w name = Unit {0}

-- where the fault has the size of a file, that is this one
abbrev pub HasSize : ℕ → StackFault → Type 0
HasSize size (BadState file) = Unit {0}
HasSize size (FileTooLong long) = long ≡ size
HasSize size Tree = Unit {0}
HasSize size (Disagree want got) = want ≡ size
HasSize size Memory = Unit {0}
