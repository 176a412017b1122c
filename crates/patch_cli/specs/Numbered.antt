-- The file patches of a text with the numbers that their backups get (GNU patch manual, "Backup Files").
use Rattle.std.specs.Prelude.{◌≡◌, ℕ, List, map, Bool, true, false, if◌then◌else◌, Option, option_map}
use Rattle.outside.specs.Files.{Files}
use Rattle.read_file_patch.specs.PlainPatch.{PlainPatch}
use Rattle.read_file_patch.specs.declared.derived.Target.{Target}
use Rattle.patch_options.specs.PlainJob.{PlainOptions}
use Rattle.patch_options.specs.declared.options.BackupNumbers.{BackupNumbers}
use Rattle.patch_set.specs.Named.{known_names, output_of}
use Rattle.patch_set.specs.SetView.{SetView}
use Rattle.apply_task.specs.Contexts.{Item}
use Rattle.patch_run.specs.Run.{Run, run_of}
use Rattle.patch_run.specs.Outcome.{items_for}
use Rattle.apply_backup_numbers.specs.Numbering.{asks_numbers, numbered_target}
use Rattle.apply_backup_numbers.specs.Renumbered.{IsRenumbered}

abbrev pub numbered_item : BackupNumbers → Files → Item → Item
numbered_item numbers files i = record i { targets = map (numbered_target numbers files) i.targets; moved = map (λ ts. map (numbered_target numbers files) ts) i.moved }

-- the output's target, and the items of a text: their backups get the numbers that come next over these files, if any are asked for
abbrev pub asked_output : PlainOptions → Files → List PlainPatch → Option Target
asked_output o files ps = if asks_numbers o then option_map (numbered_target o.numbers files) (output_of o (known_names o ps)) else output_of o (known_names o ps)

abbrev pub asked_items : PlainOptions → Files → List ℕ → List PlainPatch → List Item
asked_items o files text ps = if asks_numbers o then map (numbered_item o.numbers files) (items_for o text ps) else items_for o text ps

-- the file patches of a text one after another, with backups that are numbered before the first change
abbrev pub numbered_run : PlainOptions → List ℕ → List PlainPatch → Files → Run
numbered_run o text ps files = run_of o (asked_output o files ps) (asked_items o files text ps) files

-- the set that was read, or with numbers the same with other backups
abbrev pub IsMade : Bool → BackupNumbers → Option Files → SetView → SetView → Type 0
IsMade true numbers told before v = IsRenumbered numbers told before v
IsMade false numbers told before v = v ≡ before
