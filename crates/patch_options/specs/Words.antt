-- When words are a command, and what it asks for.
use Rattle.std.specs.Prelude.{List, [], ◌∷◌, codes, if◌then◌else◌, bytes_eq, Result, Ok, Err}
use Rattle.clap.specs.Words.{App, Row, Text}
use Rattle.patch_options.specs.Groups.{patch_table}
use Rattle.patch_options.specs.Simple.{simple_command, takes, rows_by}
use Rattle.patch_options.specs.Whole.{whole_words}
use Rattle.patch_options.specs.Table.{is_command, options_of}
use Rattle.patch_options.specs.PlainJob.{PlainJob}
use Rattle.patch_options.specs.PlainJob.PlainJob.{patch}
use Rattle.patch_options.specs.declared.options.WordFault.{WordFault}
use Rattle.patch_options.specs.declared.options.WordFault.TheVariants.{Usage}

unfoldable pub matched_job : List Row → Result PlainJob WordFault
matched_job rows = if is_command rows then Ok (patch (options_of rows)) else Err Usage

-- the simple command of `patch`
unfoldable pub patch_command : App
patch_command = simple_command (codes "patch") patch_table

-- what the words of `patch` ask for whose long names are whole
unfoldable pub whole_job : List Text → Result PlainJob WordFault
whole_job words = if takes patch_command words then matched_job (rows_by patch_command words) else Err Usage

-- what the words of `patch` ask for
unfoldable pub patch_job : List Text → Result PlainJob WordFault
patch_job words = whole_job (whole_words patch_table words)

-- what the words ask for; the first is `patch`. `clap` takes one `=` off a value attached to a letter: `-p=5` is 5, and
-- `-p==5` is refused. A value apart from its letter may not begin with `-`, but for `-` itself
abbrev pub job_of : List Text → Result PlainJob WordFault
job_of [] = Err Usage
job_of (tool ∷ rest) = if bytes_eq tool (codes "patch") then patch_job (tool ∷ rest) else Err Usage
