-- The effects on the target of a file patch.
use Rattle.std.specs.Prelude.{ℕ, List, [], ◌∷◌, ◌++◌, Bool, false, is_some, if◌then◌else◌}
use Rattle.std.specs.FinMap.{get}
use Rattle.outside.specs.Files.{Files, bytes_at}
use Rattle.outside.specs.Quiet.{Effect}
use Rattle.outside.specs.Quiet.Effect.{Put, Remove}
use Rattle.read_file_patch.specs.declared.derived.Target.{Target}

-- a file is put where that is due
abbrev pub put_if : Bool → List ℕ → List ℕ → List Effect
put_if due name bytes = if due then Put name bytes ∷ [] else []

abbrev pub backup_effects : Bool → Files → Target → List Effect
backup_effects due files w = put_if due w.backup (bytes_at files w.name)

-- taking away a name that isn't there is no effect
abbrev pub target_effects : Bool → Files → Target → List ℕ → List Effect
target_effects removal files w output = if removal then (if is_some (get files w.name) then Remove w.name ∷ [] else []) else Put w.name output ∷ []

-- of a file that is renamed: the source's backup, the target with its new bytes, and the source goes
abbrev pub moving_effects : Bool → Files → Target → Target → List ℕ → List Effect
moving_effects source_due files source w output = backup_effects source_due files source ++ (target_effects false files w output ++ Remove source.name ∷ [])

-- and in front of them the backup of what stood at the target's name
abbrev pub moved_effects : Bool → Bool → Files → Target → Target → List ℕ → List Effect
moved_effects due source_due files source w output = backup_effects due files w ++ moving_effects source_due files source w output
