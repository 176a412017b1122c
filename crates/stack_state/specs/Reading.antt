-- What the files of a stack say, one after another.
use Rattle.std.specs.Prelude.{ℕ, List, [], ◌∷◌, codes, suc, length, Bool, true, false, Option, None, Some, Result, Ok, Err, if◌then◌else◌}
use Rattle.std.specs.FinMap.{get}
use Rattle.outside.specs.Files.{Files}
use Rattle.series_stack.specs.declared.fault.StateFile.TheVariants.{Series, Count, Save}
use Rattle.series_stack.specs.Series.{series_of}
use Rattle.series_stack.specs.Saves.{Entry}
use Rattle.series_stack.specs.Stack.{Stack, Refusal, save_name, count_in, saved_in}
use Rattle.series_stack.specs.Stack.Refusal.{NoSeries, Bad}
use Rattle.series_stack.specs.Commands.{has_bad_save}

abbrev pub listed_in : Option (List (List ℕ)) → Result (List (List ℕ)) Refusal
listed_in None = Err (Bad Series)
listed_in (Some patches) = Ok patches

-- the patches that the series lists
abbrev pub patches_in : Option (List ℕ) → Result (List (List ℕ)) Refusal
patches_in None = Err NoSeries
patches_in (Some text) = listed_in (series_of text)

abbrev pub numbered_in : Option ℕ → Result ℕ Refusal
numbered_in None = Err (Bad Count)
numbered_in (Some n) = Ok n

-- how many are applied, at most so many
abbrev pub applied_in : ℕ → Option (List ℕ) → Result ℕ Refusal
applied_in most text = numbered_in (count_in most text)

-- the save of the first patch that isn't applied, where that is of its form and no save is behind it
abbrev pub next_save : ℕ → Files → Result (Option (List ℕ)) Refusal
next_save n f = if has_bad_save n f then Err (Bad Save) else Ok (get f (save_name (suc n)))

-- a save that is there and of its form
abbrev pub whole_save : Option (List ℕ) → Option (List Entry) → Result (List ℕ) Refusal
whole_save None entries = Err (Bad Save)
whole_save (Some text) None = Err (Bad Save)
whole_save (Some text) (Some entries) = Ok text

-- the save of the patch with this number, which is to be taken back
abbrev pub last_save : ℕ → Files → Result (List ℕ) Refusal
last_save k f = whole_save (get f (save_name k)) (saved_in (get f (save_name k)))
