-- What is done to the lines that `filterdiff` writes, over what `clap` matched.
use Rattle.std.specs.Prelude.{List, [], codes, Bool, not, ◌&&◌, unwrap_or}
use Rattle.clap.specs.Words.{Row}
use Rattle.patch_options.specs.Table.{is_used, value_of, has_form}
use Rattle.cli_tool_words.specs.PlainJobs.{PlainStyle}
use Rattle.cli_tool_words.specs.Selecting.{is_number, number_or_0}

-- all text outside of file patches is asked for by one word, none by another
abbrev pub is_both_texts : List Row → Bool
is_both_texts rows = is_used rows (codes "verbose") && is_used rows (codes "clean")

abbrev pub is_style : List Row → Bool
is_style rows = has_form is_number (value_of rows (codes "strip")) && not (is_both_texts rows)

abbrev pub style_of : List Row → PlainStyle
style_of rows = record {
  strip = number_or_0 rows (codes "strip");
  prefix = value_of rows (codes "addprefix");
  old_prefix = unwrap_or (value_of rows (codes "addoldprefix")) [];
  new_prefix = unwrap_or (value_of rows (codes "addnewprefix")) [];
  no_stamps = is_used rows (codes "remove-timestamps");
  clean = is_used rows (codes "clean");
}
