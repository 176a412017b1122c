-- How a list shows file patches, over what `clap` matched.
use Rattle.std.specs.Prelude.{ℕ, List, [], ◌++◌, codes, Bool, not, ◌&&◌, ◌||◌, if◌then◌else◌, bytes_eq, Option, None, Some, is_some, unwrap_or}
use Rattle.clap.specs.Words.{Row, Text}
use Rattle.patch_options.specs.Table.{is_used, value_of, has_form}
use Rattle.cli_tool_words.specs.PlainJobs.{PlainShown}
use Rattle.cli_tool_words.specs.Selecting.{is_number, number_or_0, operand_in}

abbrev pub is_shown : List Row → Bool
is_shown rows = has_form is_number (value_of rows (codes "strip"))

abbrev pub is_one_given : List Row → List ℕ → List ℕ → Bool
is_one_given rows one other = is_some (value_of rows one) || is_some (value_of rows other)

-- file patches are meant by patterns
abbrev pub has_patterns : List Row → Bool
has_patterns rows = is_one_given rows (codes "include") (codes "exclude") || is_one_given rows (codes "include-from-file") (codes "exclude-from-file")

-- what is stripped from a name that is shown: without `--strip`, and without patterns that `-p` could be for, `-p` says it
unfoldable pub shown_strip : List Row → ℕ
shown_strip rows = if is_some (value_of rows (codes "strip")) || has_patterns rows then number_or_0 rows (codes "strip") else number_or_0 rows (codes "strip-match")

-- a line for each hunk, which has a number in front, is asked for by two words
abbrev pub shows_hunks : List Row → Bool
shows_hunks rows = is_used rows (codes "line-number") && is_used rows (codes "verbose")

-- the FILE that is read, in the words of a list
abbrev pub file_shown : Option Text → List ℕ
file_shown None = codes "(standard input)"
file_shown (Some text) = if bytes_eq text (codes "-") then codes "(standard input)" else text

-- it is shown by one word, unless another one says never
abbrev pub shows_file : List Row → Bool
shows_file rows = is_used rows (codes "with-filename") && not (is_used rows (codes "no-filename"))

-- it and a mark, where it is shown
abbrev pub label_of : List Row → List ℕ → List ℕ
label_of rows mark = if shows_file rows then file_shown (operand_in rows) ++ mark else []

abbrev pub shown_of : List Row → Bool → PlainShown
shown_of rows empty_absent = record {
  numbers = is_used rows (codes "line-number");
  hunks = shows_hunks rows;
  status = is_used rows (codes "status");
  empty_absent = empty_absent;
  strip = shown_strip rows;
  prefix = unwrap_or (value_of rows (codes "addprefix")) [];
  label = label_of rows (codes ":");
  hunk_label = label_of rows (codes "-");
}
