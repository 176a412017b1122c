-- The files of a stack of patches, and what an interrupted command leaves to be undone.
use Rattle.std.specs.Prelude.{ℕ, suc, List, [], ◌∷◌, ◌++◌, codes, length, Option, None, Some, Result, Ok, Err}
use Rattle.std.specs.FinMap.{get}
use Rattle.num_text.specs.Numbers.{decimal}
use Rattle.outside.specs.Files.{Files}
use Rattle.outside.specs.Quiet.{Effect, after_all}
use Rattle.outside.specs.Quiet.Effect.{Remove}
use Rattle.series_stack.specs.declared.fault.StateFile.{StateFile}
use Rattle.series_stack.specs.declared.fault.StateFile.TheVariants.{Series, Count}
use Rattle.series_stack.specs.Series.{series_of}
use Rattle.series_stack.specs.Count.{count_of}
use Rattle.series_stack.specs.Saves.{Entry, entries_of}
use Rattle.series_stack.specs.Restoring.{restoring}

-- ---- the names

-- the list of the patches
abbrev pub series_name : List ℕ
series_name = codes "patches/series"

-- how many are applied
abbrev pub count_name : List ℕ
count_name = codes ".pc/applied"

-- what the patch with this number found, counted from 1
unfoldable pub save_name : ℕ → List ℕ
save_name k = codes ".pc/" ++ (decimal k ++ codes ".save")

-- the text of a patch
abbrev pub patch_name : List ℕ → List ℕ
patch_name name = codes "patches/" ++ name

-- ---- the state

-- the patches in their order, and how many of them are applied, from the front
pub record Stack : Type 0 where
  pub patches : List (List ℕ)
  pub applied : ℕ

-- why a command ends before it does anything
pub data Refusal : Type 0 where
  -- no file lists the patches
  NoSeries : Refusal
  -- a file of the stack isn't of its form
  Bad : StateFile → Refusal
  -- all are applied, or none is; so many are
  AtEnd : ℕ → Refusal
  -- the patch is missing, or isn't read
  NoPatch : Refusal
  -- the file patch that opens at this line has a name of the stack
  OwnName : ℕ → Refusal

-- a missing file counts none
abbrev pub count_in : ℕ → Option (List ℕ) → Option ℕ
count_in most None = Some 0
count_in most (Some text) = count_of most text

abbrev pub counted : List (List ℕ) → Option ℕ → Result Stack Refusal
counted patches None = Err (Bad Count)
counted patches (Some n) = Ok (record { patches = patches; applied = n })

abbrev pub listed : Option (List (List ℕ)) → Option (List ℕ) → Result Stack Refusal
listed None count = Err (Bad Series)
listed (Some patches) count = counted patches (count_in (length patches) count)

-- from what the two files hold
abbrev pub stack_in : Option (List ℕ) → Option (List ℕ) → Result Stack Refusal
stack_in None count = Err NoSeries
stack_in (Some text) count = listed (series_of text) count

unfoldable pub stack_of : Files → Result Stack Refusal
stack_of f = stack_in (get f series_name) (get f count_name)

-- ---- what a save undoes

-- the entries of a save that is there and of its form
abbrev pub saved_in : Option (List ℕ) → Option (List Entry)
saved_in None = None
saved_in (Some text) = entries_of text

-- the entries are restored, and their save is taken away
abbrev pub undoing_by : List ℕ → Option (List Entry) → Files → List Effect
undoing_by name None f = []
undoing_by name (Some es) f = restoring es f ++ Remove name ∷ []

unfoldable pub undoing : ℕ → Files → List Effect
undoing k f = undoing_by (save_name k) (saved_in (get f (save_name k))) f

abbrev pub recovering_by : Result Stack Refusal → Files → List Effect
recovering_by (Err e) f = []
recovering_by (Ok s) f = undoing (suc s.applied) f

-- the effects by which the save of the first patch that isn't applied is undone, where it is there
unfoldable pub recovering : Files → List Effect
recovering f = recovering_by (stack_of f) f

-- the files without what an interrupted command did
abbrev pub recover : Files → Files
recover f = after_all (recovering f) f
