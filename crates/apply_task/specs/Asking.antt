-- What a file patch asks for by its git header, taken from a side, and what the options leave of that (git-diff(1), "Generating patch text with -p"; POSIX `patch`).
use Rattle.std.specs.Prelude.{ℕ, List, Bool, true, false, not, ◌&&◌, ◌==◌, if◌then◌else◌, is_none, is_some, Option, None, Some}
use Rattle.std.specs.Option.{option_and_then}
use Rattle.hunk_core.specs.declared.Side.{Side}
use Rattle.hunk_core.specs.declared.Side.TheVariants.{Forward, Reversed}
use Rattle.hunk_core.specs.Turned.{other_side}
use Rattle.read_header_record.specs.declared.Action.{Action}
use Rattle.read_header_record.specs.declared.Action.TheVariants as action
use Rattle.read_header_record.specs.Modes.{is_executable}
use Rattle.patch_options.specs.PlainJob.{PlainOptions}
use Rattle.read_file_patch.specs.Actions.{is_moved}
use Rattle.read_file_patch.specs.Absent.{is_said_absent}
use Rattle.read_file_patch.specs.PlainPatch.{PlainHeader, PlainPatch, hunk_count}
use Rattle.apply_task.specs.Kinds.{is_link}
use Rattle.apply_task.specs.declared.kinds.Mode.{Mode}
use Rattle.apply_task.specs.declared.kinds.Mode.TheVariants.{Output, Kept, Plain, Executable, Link}

-- the file is renamed, so that the name that it had goes
abbrev pub is_rename : Action → Bool
is_rename action.Plain = false
is_rename action.New = false
is_rename action.Deleted = false
is_rename action.Rename = true
is_rename action.Copy = false

-- its file is renamed or copied
abbrev pub moves : PlainPatch → Bool
moves p = is_moved p.header.action

abbrev pub renames : PlainPatch → Bool
renames p = is_rename p.header.action

-- it has no hunk, as behind a bare git header
abbrev pub is_bare : PlainPatch → Bool
is_bare p = hunk_count p.change == 0

-- by its git header it makes a file, and takes one away; the one taken reversed is the other
abbrev pub acts_new : Side → PlainPatch → Bool
acts_new side p = is_said_absent side p.header.action

abbrev pub acts_deleted : Side → PlainPatch → Bool
acts_deleted side p = is_said_absent (other_side side) p.header.action

-- the other one of two places
abbrev pub other_place : ℕ → ℕ
other_place k = if k == 0 then 1 else 0

-- of the two names of a file that is renamed or copied the place of the one that it has before, as the file patches are taken
abbrev pub source_at : Bool → ℕ
source_at reverse = if reverse then 1 else 0

-- its file gets its other name, where this one was chosen: the one that it has before; with the other one chosen the file has that already, since a rename was done before, and so a file patch changes it as any other
abbrev pub moves_at : Bool → PlainPatch → ℕ → Bool
moves_at reverse p k = moves p && k == source_at reverse

-- the place of the name that is written, where this one was chosen: the other one, if its file gets that
abbrev pub written_place : Bool → PlainPatch → ℕ → ℕ
written_place reverse p k = if moves_at reverse p k then other_place k else k

-- a file patch can take its file away, but not with `--posix`, nor with `-D`
abbrev pub takes_files : PlainOptions → Bool
takes_files o = not o.posix && is_none o.define

-- what a git header says of the mode of the side that is taken as new
abbrev pub mode_on : Side → PlainHeader → Option (List ℕ)
mode_on Forward h = h.new_mode
mode_on Reversed h = h.old_mode

-- whether a regular file may be executed, where that is told; else it is kept as it is
abbrev pub mode_by : Option Bool → Mode
mode_by None = Kept
mode_by (Some true) = Executable
mode_by (Some false) = Plain

-- the file gets a mode
abbrev pub is_set : Mode → Bool
is_set Output = false
is_set Kept = false
is_set Plain = true
is_set Executable = true
is_set Link = true

-- what is asked of the file that is written: to be a symbolic link, where a git header says so of one side, or to be a
-- regular file as it says of the side that is taken as new; an output that the options name isn't that file. The bits that
-- the file has are never compared. Without hunks both modes must be told, and the bytes are put again, so that mode, backup
-- and stop go as with any file patch
abbrev pub mode_asked : PlainOptions → Side → PlainPatch → Mode
mode_asked o side p = if is_some o.output then Output else if is_link p then Link else mode_by (option_and_then is_executable (mode_on side p.header))
