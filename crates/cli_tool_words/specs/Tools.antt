-- The tools beside `patch`, by their names.
use Rattle.std.specs.Prelude.{List, codes, if◌then◌else◌, bytes_eq, Option, None, Some}
use Rattle.clap.specs.Words.{App, Text}
use Rattle.patch_options.specs.Simple.{PlainWord, simple_command}
use Rattle.cli_tool_words.specs.Tables.{list_table, filter_table, grep_table, split_table, input_table, gen_table, stack_table}
use Rattle.cli_tool_words.specs.declared.tools.Tool.{Tool}
use Rattle.cli_tool_words.specs.declared.tools.Tool.TheVariants.{Lsdiff, Filterdiff, Grepdiff, Splitdiff, Recountdiff, Patchgen, Reversediff, Patchstack}

abbrev pub name_of : Tool → Text
name_of Lsdiff = codes "lsdiff"
name_of Filterdiff = codes "filterdiff"
name_of Grepdiff = codes "grepdiff"
name_of Splitdiff = codes "splitdiff"
name_of Recountdiff = codes "recountdiff"
name_of Patchgen = codes "patchgen"
name_of Reversediff = codes "reversediff"
name_of Patchstack = codes "patchstack"

abbrev pub table_of : Tool → List PlainWord
table_of Lsdiff = list_table
table_of Filterdiff = filter_table
table_of Grepdiff = grep_table
table_of Splitdiff = split_table
table_of Recountdiff = input_table
table_of Patchgen = gen_table
table_of Reversediff = input_table
table_of Patchstack = stack_table

-- the tool with this name
unfoldable pub tool_named : Text → Option Tool
tool_named name = if bytes_eq name (codes "lsdiff") then Some Lsdiff
    else if bytes_eq name (codes "filterdiff") then Some Filterdiff
    else if bytes_eq name (codes "grepdiff") then Some Grepdiff
    else if bytes_eq name (codes "splitdiff") then Some Splitdiff
    else if bytes_eq name (codes "recountdiff") then Some Recountdiff
    else if bytes_eq name (codes "patchgen") then Some Patchgen
    else if bytes_eq name (codes "reversediff") then Some Reversediff
    else if bytes_eq name (codes "patchstack") then Some Patchstack
    else None

-- its command
unfoldable pub command_of : Tool → App
command_of tool = simple_command (name_of tool) (table_of tool)
