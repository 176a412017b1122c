-- What is looked for among the file patches themselves.
use Rattle.std.specs.Prelude.{Bool, true, false, ◌||◌, Option}
use Rattle.std.specs.List.{list_any}
use Rattle.std.specs.Option.{option_map_or}
use Rattle.read_file_patch.specs.declared.Change.{Change}
use Rattle.read_file_patch.specs.declared.Change.TheVariants.{Hunks, Script}
use Rattle.read_file_patch.specs.declared.FilePatch.{FilePatch}
use Rattle.read_file_patch.specs.declared.derived.Target.{Target}
use Rattle.read_file_patch.specs.Targets.{is_reserved}

-- the change is an ed script
abbrev pub is_script_change : Change → Bool
is_script_change (Hunks hs) = false
is_script_change (Script s) = true

abbrev pub has_script : FilePatch → Bool
has_script p = is_script_change p.change

-- a name of a temporary would be written for the file patch
abbrev pub is_reserving : Option Target → FilePatch → Bool
is_reserving output p = list_any is_reserved p.targets.items || option_map_or is_reserved output false
