-- What a save makes of the files, where it is one, and its own name with them.
use Rattle.std.specs.Prelude.{ℕ, List, [], ◌∷◌, ◌++◌, is_some, if◌then◌else◌, Option, None, Some}
use Rattle.std.specs.FinMap.{get}
use Rattle.outside.specs.Files.{Files}
use Rattle.outside.specs.Quiet.{Effect, after_all}
use Rattle.outside.specs.Quiet.Effect.{Remove}
use Rattle.series_stack.specs.Saves.{Entry}
use Rattle.series_stack.specs.Restoring.{restoring}

abbrev pub restored_by : Option (List Entry) → Files → List Effect
restored_by None f = []
restored_by (Some es) f = restoring es f

-- the name is taken away, where it is there
abbrev pub taken_away : List ℕ → Files → List Effect
taken_away name f = if is_some (get f name) then Remove name ∷ [] else []

-- the entries are restored, and their save is taken away, where it is there
abbrev pub undone_by : List ℕ → Option (List Entry) → Files → List Effect
undone_by name entries f = restored_by entries f ++ taken_away name (after_all (restored_by entries f) f)
