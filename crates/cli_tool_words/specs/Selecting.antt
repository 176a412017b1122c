-- Which file patches are meant, and the text that is read, over what `clap` matched.
use Rattle.std.specs.Prelude.{ℕ, List, [], codes, Bool, true, ◌&&◌, ◌||◌, Option, is_some, option_map, option_and_then, unwrap_or, if◌then◌else◌}
use Rattle.clap.specs.Words.{Row, Text}
use Rattle.outside.specs.Names.{given_form}
use Rattle.patch_options.specs.Forms.{number_of, is_name, is_patch_file}
use Rattle.patch_options.specs.Simple.{values_of}
use Rattle.patch_options.specs.Table.{value_of, has_form, input_of}
use Rattle.patch_options.specs.declared.options.Input.{Input}
use Rattle.cli_tool_words.specs.PlainJobs.{PlainSelect}

abbrev pub is_number : List ℕ → Bool
is_number text = is_some (number_of text)

-- the number that an option gives, or 0
abbrev pub number_or_0 : List Row → Text → ℕ
number_or_0 rows name = unwrap_or (option_and_then number_of (value_of rows name)) 0

-- the name that a text gives
abbrev pub name_in : Text → Text
name_in text = given_form text

-- the patterns of an option, in their order
abbrev pub patterns : List Row → Text → List (List ℕ)
patterns rows name = unwrap_or (values_of rows name) []

unfoldable pub is_select : List Row → Bool
is_select rows = has_form is_number (value_of rows (codes "strip-match"))
    && (has_form is_name (value_of rows (codes "include-from-file")) && has_form is_name (value_of rows (codes "exclude-from-file")))

-- nothing is applied by a filter, so binary changes are passed over, with `--skip-binary` and without
unfoldable pub select_of : List Row → PlainSelect
select_of rows = record {
  strip = number_or_0 rows (codes "strip-match");
  include = patterns rows (codes "include");
  exclude = patterns rows (codes "exclude");
  include_file = option_map name_in (value_of rows (codes "include-from-file"));
  exclude_file = option_map name_in (value_of rows (codes "exclude-from-file"));
  only_included = is_some (value_of rows (codes "include")) || is_some (value_of rows (codes "include-from-file"));
  skip_binary = true;
}

-- a file has the patterns
abbrev pub has_pattern_file : List Row → Bool
has_pattern_file rows = is_some (value_of rows (codes "file"))

-- the operand that is the text: behind the pattern, or the first one where a file has the patterns
abbrev pub operand_in : List Row → Option Text
operand_in rows = if has_pattern_file rows then value_of rows (codes "regex") else value_of rows (codes "input")

-- the text that is read: a file, or standard input
abbrev pub is_input : List Row → Bool
is_input rows = has_form is_patch_file (operand_in rows)

abbrev pub input_in : List Row → Input
input_in rows = input_of (operand_in rows)
