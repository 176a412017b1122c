-- In which ways a patch text is read for a command (GNU patch manual, "Multiple Patches in a File"; git-diff(1), "Generating patch text with -p").
use Rattle.std.specs.Prelude.{Bool, true, false, not, ◌&&◌, ◌||◌, Option, None, Some, is_none}
use Rattle.hunk_core.specs.declared.Form.{Form}
use Rattle.hunk_core.specs.declared.Form.TheVariants.{Unified, Context, Normal, Ed}
use Rattle.patch_header.specs.declared.read_options.ReadOptions.{ReadOptions}
use Rattle.patch_options.specs.PlainJob.{PlainOptions}

-- the command has option --posix
abbrev pub is_posix : PlainOptions → Bool
is_posix o = o.posix

-- the unified form may be read
abbrev pub admits_unified : Option Form → Bool
admits_unified None = true
admits_unified (Some Unified) = true
admits_unified (Some Context) = false
admits_unified (Some Normal) = false
admits_unified (Some Ed) = false

-- a file patch of the unified form is meant for its own names
abbrev pub is_for_own_names : PlainOptions → Bool
is_for_own_names o = admits_unified o.only && (is_none o.file && (is_none o.output && not o.posix))

-- git headers are read where a file patch is meant for its own names
abbrev pub reads_git : PlainOptions → Bool
reads_git o = is_for_own_names o

-- binary changes are passed over where that is asked for, and where a run is to go on whatever it meets
abbrev pub skips_binary : PlainOptions → Bool
skips_binary o = (o.force || o.batch) || o.skip_binary

-- the ways for a command
abbrev pub ways_of : PlainOptions → ReadOptions
ways_of o = record { only = o.only; git = reads_git o; skip_binary = skips_binary o }
