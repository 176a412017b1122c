-- When words are a command of a tool beside `patch`, and what it asks for.
use Rattle.std.specs.Prelude.{List, [], ◌∷◌, ◌&&◌, if◌then◌else◌, Result, Ok, Err}
use Rattle.std.specs.Option.{option_map_or}
use Rattle.clap.specs.Words.{Text}
use Rattle.patch_options.specs.Simple.{takes, rows_by}
use Rattle.patch_options.specs.Whole.{whole_words}
use Rattle.patch_options.specs.declared.options.WordFault.{WordFault}
use Rattle.patch_options.specs.declared.options.WordFault.TheVariants.{Usage}
use Rattle.cli_tool_words.specs.Asked.{is_lawful, asked}
use Rattle.cli_tool_words.specs.PlainJobs.{PlainToolJob}
use Rattle.cli_tool_words.specs.Tools.{command_of, table_of, tool_named}
use Rattle.cli_tool_words.specs.declared.tools.Tool.{Tool}

-- what words ask of a tool whose long names are whole: its simple command takes them, and what it matches is lawful
unfoldable pub whole_job : Tool → List Text → Result PlainToolJob WordFault
whole_job tool words = if takes (command_of tool) words && is_lawful tool (rows_by (command_of tool) words)
    then Ok (asked tool (rows_by (command_of tool) words)) else Err Usage

-- what words ask of a tool
unfoldable pub job_by : Tool → List Text → Result PlainToolJob WordFault
job_by tool words = whole_job tool (whole_words (table_of tool) words)

-- what the words ask for; the first names the tool
abbrev pub tool_job : List Text → Result PlainToolJob WordFault
tool_job [] = Err Usage
tool_job (first ∷ rest) = option_map_or (λ tool. job_by tool (first ∷ rest)) (tool_named first) (Err Usage)
