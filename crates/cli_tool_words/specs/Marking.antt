-- What is told of the hunks that are written, over what `clap` matched (manual page of `filterdiff`: --annotate, --as-numbered-lines).
use Rattle.std.specs.Prelude.{ℕ, Bool, List, codes, if◌then◌else◌, bytes_eq, Option, None, Some, is_some, option_and_then}
use Rattle.clap.specs.Words.{Row}
use Rattle.patch_options.specs.Table.{is_used, value_of, has_form}
use Rattle.cli_tool_words.specs.declared.jobs.Marks.{Marks}
use Rattle.cli_tool_words.specs.declared.jobs.Numbered.{Numbered}
use Rattle.cli_tool_words.specs.declared.jobs.Numbered.TheVariants.{Before, After}

-- the side whose lines are numbered, by the word for it
unfoldable pub numbered_of : List ℕ → Option Numbered
numbered_of text = if bytes_eq text (codes "before") then Some Before
    else if bytes_eq text (codes "after") then Some After
    else None

abbrev pub is_numbered : List ℕ → Bool
is_numbered text = is_some (numbered_of text)

abbrev pub are_marks : List Row → Bool
are_marks rows = has_form is_numbered (value_of rows (codes "as-numbered-lines"))

abbrev pub marks_of : List Row → Marks
marks_of rows = record {
  annotate = is_used rows (codes "annotate");
  numbered = option_and_then numbered_of (value_of rows (codes "as-numbered-lines"));
}
