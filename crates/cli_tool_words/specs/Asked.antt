-- What the words of each tool ask for, over what `clap` matched.
use Rattle.std.specs.Prelude.{ℕ, ◌*◌, List, [], codes, nat_le, Bool, true, false, not, ◌&&◌, ◌||◌, if◌then◌else◌, bytes_eq, Option, None, Some, is_some, option_map, option_and_then, unwrap_or}
use Rattle.std.specs.Option.{option_map_or}
use Rattle.clap.specs.Words.{Row, Text}
use Rattle.hunk_core.specs.declared.Form.{Form}
use Rattle.hunk_core.specs.declared.Form.TheVariants.{Unified, Context, Normal, Ed}
use Rattle.patch_options.specs.Forms.{number_of, buffer_of, plan_of, sync_of, is_lasting_name, is_name}
use Rattle.patch_options.specs.Table.{is_used, value_of, has_form, sync_in, plan_in, buffer_size}
use Rattle.cli_tool_words.specs.PlainJobs.{PlainListJob, PlainFilterJob, PlainGrepJob, PlainPartNames, PlainSplitJob, PlainGenJob, PlainToolJob}
use Rattle.cli_tool_words.specs.PlainJobs.PlainToolJob.{list_job, filter_job, grep_job, split_job, recount_job, gen_job, flip_job, stack_job}
use Rattle.cli_tool_words.specs.Ranges.{ranges_of}
use Rattle.cli_tool_words.specs.Selecting.{has_pattern_file, is_number, number_or_0, name_in, is_select, select_of, is_input, input_in}
use Rattle.cli_tool_words.specs.Showing.{is_one_given, is_shown, shown_of}
use Rattle.cli_tool_words.specs.Marking.{are_marks, marks_of}
use Rattle.cli_tool_words.specs.Styling.{is_style, style_of}
use Rattle.cli_tool_words.specs.declared.jobs.Searched.{Searched}
use Rattle.cli_tool_words.specs.declared.jobs.Searched.TheVariants.{All, Removed, Added, Changed}
use Rattle.cli_tool_words.specs.declared.jobs.GrepOut.{GrepOut}
use Rattle.cli_tool_words.specs.declared.jobs.GrepOut.TheVariants.{Names, Hunks, Files}
use Rattle.cli_tool_words.specs.declared.jobs.StackJob.{StackJob}
use Rattle.cli_tool_words.specs.declared.jobs.StackOp.{StackOp}
use Rattle.cli_tool_words.specs.declared.jobs.StackOp.TheVariants.{Push, Pop, Applied}
use Rattle.cli_tool_words.specs.declared.tools.Tool.{Tool}
use Rattle.cli_tool_words.specs.declared.tools.Tool.TheVariants.{Lsdiff, Filterdiff, Grepdiff, Splitdiff, Recountdiff, Patchgen, Reversediff, Patchstack}

-- the text that is read, and the file patches that are meant, are lawful
abbrev pub is_subject : List Row → Bool
is_subject rows = is_select rows && is_input rows

-- where it is said when what is written is on the disk, that is one of the words for it
abbrev pub is_sync : List Row → Bool
is_sync rows = has_form (λ t. is_some (sync_of t)) (value_of rows (codes "sync"))

-- ---- `lsdiff`

abbrev pub is_list : List Row → Bool
is_list rows = is_shown rows && is_subject rows

-- a side without lines is absent, by one word or the other
abbrev pub is_empty_absent : List Row → Bool
is_empty_absent rows = is_used rows (codes "empty-files-as-absent") || is_used rows (codes "empty-files-as-removed")

abbrev pub list_of : List Row → PlainListJob
list_of rows = record {
  input = input_in rows;
  select = select_of rows;
  shown = shown_of rows (is_empty_absent rows);
  number_files = is_used rows (codes "number-files");
}

-- ---- `filterdiff`

abbrev pub is_ranges : List ℕ → Bool
is_ranges text = is_some (ranges_of text)

abbrev pub are_ranges : List Row → Bool
are_ranges rows = has_form is_ranges (value_of rows (codes "hunks"))
    && (has_form is_ranges (value_of rows (codes "lines")) && has_form is_ranges (value_of rows (codes "files")))

-- the form that a text names
unfoldable pub form_of : List ℕ → Option Form
form_of text = if bytes_eq text (codes "unified") then Some Unified
    else if bytes_eq text (codes "context") then Some Context
    else if bytes_eq text (codes "normal") then Some Normal
    else if bytes_eq text (codes "ed") then Some Ed
    else None

abbrev pub is_form : List ℕ → Bool
is_form text = is_some (form_of text)

-- what is told of hunks goes with no form
abbrev pub asks_marks : List Row → Bool
asks_marks rows = is_used rows (codes "annotate") || is_some (value_of rows (codes "as-numbered-lines"))

abbrev pub is_one_form : List Row → Bool
is_one_form rows = not (asks_marks rows && is_some (value_of rows (codes "format")))

abbrev pub is_formed : List Row → Bool
is_formed rows = (has_form is_form (value_of rows (codes "format")) && are_marks rows) && is_one_form rows

abbrev pub is_filter : List Row → Bool
is_filter rows = is_formed rows && (is_style rows && (are_ranges rows && is_subject rows))

abbrev pub filter_of : List Row → PlainFilterJob
filter_of rows = record {
  input = input_in rows;
  select = select_of rows;
  hunks = option_and_then ranges_of (value_of rows (codes "hunks"));
  lines = option_and_then ranges_of (value_of rows (codes "lines"));
  files = option_and_then ranges_of (value_of rows (codes "files"));
  format = option_and_then form_of (value_of rows (codes "format"));
  verbose = is_used rows (codes "verbose");
  style = style_of rows;
  marks = marks_of rows;
}

-- ---- `grepdiff`

-- what is written, by the word for it
unfoldable pub grep_out_of : List ℕ → Option GrepOut
grep_out_of text = if bytes_eq text (codes "hunk") then Some Hunks
    else if bytes_eq text (codes "file") then Some Files
    else None

abbrev pub is_grep_out : List ℕ → Bool
is_grep_out text = is_some (grep_out_of text)

-- which lines are searched, by the word for it
unfoldable pub searched_of : List ℕ → Option Searched
searched_of text = if bytes_eq text (codes "all") then Some All
    else if bytes_eq text (codes "rem") then Some Removed
    else if bytes_eq text (codes "removals") then Some Removed
    else if bytes_eq text (codes "add") then Some Added
    else if bytes_eq text (codes "additions") then Some Added
    else if bytes_eq text (codes "mod") then Some Changed
    else if bytes_eq text (codes "modifications") then Some Changed
    else None

abbrev pub is_searched : List ℕ → Bool
is_searched text = is_some (searched_of text)

-- words that only names have
abbrev pub shows_names : List Row → Bool
shows_names rows = (is_used rows (codes "line-number") || is_used rows (codes "with-filename")) || is_one_given rows (codes "strip") (codes "addprefix")

-- names are shown, or hunks or file patches are written, or their numbered lines
abbrev pub is_one_kind : List Row → Bool
is_one_kind rows = if is_some (value_of rows (codes "output-matching")) then not (shows_names rows) else not (is_some (value_of rows (codes "as-numbered-lines")))

-- a pattern is there, or a file of patterns and at most one operand
abbrev pub is_sought : List Row → Bool
is_sought rows = if has_pattern_file rows then not (is_some (value_of rows (codes "input"))) else is_some (value_of rows (codes "regex"))

-- the pattern, if no file has them
abbrev pub pattern_in : List Row → Text
pattern_in rows = if has_pattern_file rows then [] else unwrap_or (value_of rows (codes "regex")) []

-- a pattern is there, with words that go together
abbrev pub is_grepped : List Row → Bool
is_grepped rows = (is_sought rows && are_marks rows) && is_one_kind rows

-- that a pattern is an extended one is so in any case
abbrev pub is_grep : List Row → Bool
is_grep rows = is_grepped rows
    && (has_form is_grep_out (value_of rows (codes "output-matching")) && (has_form is_searched (value_of rows (codes "only-match")) && (has_form is_name (value_of rows (codes "file")) && is_list rows)))

abbrev pub grep_of : List Row → PlainGrepJob
grep_of rows = record {
  input = input_in rows;
  select = select_of rows;
  pattern = pattern_in rows;
  pattern_file = option_map name_in (value_of rows (codes "file"));
  searched = unwrap_or (option_and_then searched_of (value_of rows (codes "only-match"))) All;
  output = unwrap_or (option_and_then grep_out_of (value_of rows (codes "output-matching"))) Names;
  shown = shown_of rows false;
  marks = marks_of rows;
}

-- ---- `splitdiff`

-- the parts are named by a file's name
unfoldable pub is_split_file : List ℕ → Bool
is_split_file text = not (bytes_eq text (codes "-")) && is_lasting_name text

-- the front that is stripped from names is a number, and the directory of the parts a name
abbrev pub are_part_names : List Row → Bool
are_part_names rows = has_form is_number (value_of rows (codes "strip-match")) && has_form is_name (value_of rows (codes "directory"))

abbrev pub part_names_of : List Row → PlainPartNames
part_names_of rows = record {
  by_name = is_used rows (codes "by-name");
  directory = option_map name_in (value_of rows (codes "directory"));
  bare = is_used rows (codes "bare");
  strip = number_or_0 rows (codes "strip-match");
}

abbrev pub is_split : List Row → Bool
is_split rows = is_sync rows && (are_part_names rows && option_map_or is_split_file (value_of rows (codes "input")) false)

abbrev pub split_of : List Row → PlainSplitJob
split_of rows = record {
  input = option_map_or name_in (value_of rows (codes "input")) [];
  every = is_used rows (codes "every");
  names = part_names_of rows;
  verbose = is_used rows (codes "verbose");
  skip_binary = true;
  sync = sync_in rows;
}

-- ---- `patchgen`

-- a number between two others, both included
abbrev pub is_within : ℕ → ℕ → ℕ → Bool
is_within least most n = nat_le least n && nat_le n most

-- so many files of so many lines are made
abbrev pub is_size : ℕ → ℕ → Bool
is_size files lines = is_within 1 1000 files && (is_within 20 9999999 lines && nat_le (files * lines) 10000000)

-- the three numbers, where each is one and they are in their bounds
abbrev pub is_made : Option ℕ → Option ℕ → Option ℕ → Bool
is_made (Some seed) (Some files) (Some lines) = is_size files lines
is_made seed files lines = false

abbrev pub number_in : List Row → Text → Option ℕ
number_in rows name = option_and_then number_of (value_of rows name)

abbrev pub is_gen : List Row → Bool
is_gen rows = is_made (number_in rows (codes "seed")) (number_in rows (codes "files")) (number_in rows (codes "lines"))
    && (is_sync rows && (has_form (λ t. is_some (plan_of t)) (value_of rows (codes "plan")) && has_form (λ t. is_some (buffer_of t)) (value_of rows (codes "buffer"))))

abbrev pub gen_of : List Row → PlainGenJob
gen_of rows = record {
  seed = number_or_0 rows (codes "seed");
  files = number_or_0 rows (codes "files");
  lines = number_or_0 rows (codes "lines");
  plan = plan_in rows;
  buffer = buffer_size rows;
  sync = sync_in rows;
}

-- ---- `patchstack`

-- what is done, by the word for it; all patches can be applied or taken back, and not counted
unfoldable pub stack_op_of : Bool → List ℕ → Option StackOp
stack_op_of all text = if bytes_eq text (codes "push") then Some Push
    else if bytes_eq text (codes "pop") then Some Pop
    else if bytes_eq text (codes "applied") then (if all then None else Some Applied)
    else None

abbrev pub stack_op_in : List Row → Option StackOp
stack_op_in rows = option_and_then (stack_op_of (is_used rows (codes "all"))) (value_of rows (codes "operation"))

abbrev pub is_stack : List Row → Bool
is_stack rows = is_sync rows && is_some (stack_op_in rows)

abbrev pub stack_of : List Row → StackJob
stack_of rows = record { op = unwrap_or (stack_op_in rows) Applied; all = is_used rows (codes "all"); sync = sync_in rows }

-- ---- all of them

-- what was matched in the words of a tool is lawful
abbrev pub is_lawful : Tool → List Row → Bool
is_lawful Lsdiff rows = is_list rows
is_lawful Filterdiff rows = is_filter rows
is_lawful Grepdiff rows = is_grep rows
is_lawful Splitdiff rows = is_split rows
is_lawful Recountdiff rows = is_input rows
is_lawful Patchgen rows = is_gen rows
is_lawful Reversediff rows = is_input rows
is_lawful Patchstack rows = is_stack rows

-- what it asks for
abbrev pub asked : Tool → List Row → PlainToolJob
asked Lsdiff rows = list_job (list_of rows)
asked Filterdiff rows = filter_job (filter_of rows)
asked Grepdiff rows = grep_job (grep_of rows)
asked Splitdiff rows = split_job (split_of rows)
asked Recountdiff rows = recount_job (input_in rows)
asked Patchgen rows = gen_job (gen_of rows)
asked Reversediff rows = flip_job (input_in rows)
asked Patchstack rows = stack_job (stack_of rows)
