-- What a filter is given, and what `recountdiff` comes to, by its job, the files of the tree and what standard input has left alone
-- (manual pages of patchutils).
use Rattle.std.specs.Prelude.{◌≡◌, ℕ, List, [], ◌∷◌, ◌++◌, if◌then◌else◌, false, Option, None, Some, Result, Ok, Err}
use Rattle.std.specs.List.{flat_map}
use Rattle.std.specs.FinMap.{get}
use Rattle.line_list.specs.Lines.{lines}
use Rattle.hunk_core.specs.Reading.{Fault}
use Rattle.outside.specs.Files.{Files}
use Rattle.patch_options.specs.declared.options.Input.{Input}
use Rattle.cli_tool_words.specs.PlainJobs.{PlainSelect}
use Rattle.patch_options.specs.Forms.{is_empty}
use Rattle.cli_run_answers.specs.declared.fault.InputFault.{InputFault}
use Rattle.cli_run_answers.specs.Input.{input_bytes, answer_of}
use Rattle.patch_header.specs.Content.{content}
use Rattle.patch_set.specs.declared.fault.SetFault.TheVariants.{Malformed}
use Rattle.split_recount.specs.Recounted.{recounted}
use Rattle.filter_whole_text.specs.declared.fault.FilterFault.{FilterFault}
use Rattle.filter_whole_text.specs.declared.fault.FilterFault.TheVariants as faults

-- the text that is written, or why nothing is
abbrev pub Outcome : Type 0
Outcome = Result (List ℕ) FilterFault

-- ---- what is given

-- the pattern that a line is; an empty line is none
abbrev pub pattern_of : List ℕ → List (List ℕ)
pattern_of line = if is_empty (content line) then [] else content line ∷ []

-- the patterns that a text lists
unfoldable pub patterns_in : List ℕ → List (List ℕ)
patterns_in text = flat_map pattern_of (lines text)

-- the patterns of a file, where one is named
abbrev pub patterns_by : Result (List ℕ) InputFault → Result (List (List ℕ)) InputFault
patterns_by (Ok text) = Ok (patterns_in text)
patterns_by (Err fault) = Err fault

abbrev pub patterns_of : Option (List ℕ) → Files → Result (List (List ℕ)) InputFault
patterns_of None files = Ok []
patterns_of (Some name) files = patterns_by (answer_of (get files name))

-- the same selection with more patterns
abbrev pub with_patterns : PlainSelect → List (List ℕ) → List (List ℕ) → PlainSelect
with_patterns s include exclude = record {
  strip = s.strip;
  include = s.include ++ include;
  exclude = s.exclude ++ exclude;
  include_file = s.include_file;
  exclude_file = s.exclude_file;
  only_included = s.only_included;
  skip_binary = s.skip_binary;
}

abbrev pub and_excluded : PlainSelect → List (List ℕ) → Result (List (List ℕ)) InputFault → Result PlainSelect InputFault
and_excluded s include (Ok exclude) = Ok (with_patterns s include exclude)
and_excluded s include (Err fault) = Err fault

abbrev pub and_included : PlainSelect → Files → Result (List (List ℕ)) InputFault → Result PlainSelect InputFault
and_included s files (Ok include) = and_excluded s include (patterns_of s.exclude_file files)
and_included s files (Err fault) = Err fault

-- the selection with the patterns of its files, of which the included ones are read first
unfoldable pub selection : PlainSelect → Files → Result PlainSelect InputFault
selection s files = and_included s files (patterns_of s.include_file files)

-- a text and a selection
abbrev pub and_selection : List ℕ → Result PlainSelect InputFault → Result (List ℕ × PlainSelect) InputFault
and_selection text (Ok s) = Ok (text, s)
and_selection text (Err fault) = Err fault

abbrev pub behind_text : PlainSelect → Files → Result (List ℕ) InputFault → Result (List ℕ × PlainSelect) InputFault
behind_text s files (Ok text) = and_selection text (selection s files)
behind_text s files (Err fault) = Err fault

-- the text is read first, then the files of patterns
unfoldable pub given : Input → PlainSelect → Files → List ℕ → Result (List ℕ × PlainSelect) InputFault
given input s files left = behind_text s files (answer_of (input_bytes input None files left))

-- ---- what comes of it

-- the outcome is this one
abbrev pub IsOutcomeOf : (Files → List ℕ → Outcome) → Files → List ℕ → Outcome → Type 0
IsOutcomeOf outcome files left o = o ≡ outcome files left

-- `recountdiff`
abbrev pub recounted_as : Result (List ℕ) Fault → Outcome
recounted_as (Ok bytes) = Ok bytes
recounted_as (Err fault) = Err (faults.Set (Malformed fault.line fault.kind))

abbrev pub recounted_from : Result (List ℕ) InputFault → Outcome
recounted_from (Ok text) = recounted_as (recounted text)
recounted_from (Err fault) = Err (faults.Input fault)

abbrev pub recount_outcome : Input → Files → List ℕ → Outcome
recount_outcome input files left = recounted_from (answer_of (input_bytes input None files left))

-- all file patches are meant
abbrev pub no_selection : PlainSelect
no_selection = record { strip = 0; include = []; exclude = []; include_file = None; exclude_file = None; only_included = false; skip_binary = false }
