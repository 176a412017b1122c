-- What a filter that chooses comes to, by its job, the files of the tree and what standard input has left alone (manual pages of patchutils).
use Rattle.std.specs.Prelude.{◌≡◌, ◌≢◌, ◌⊎◌, ℕ, List, [], Bool, false, Option, None, Some, Result, Ok, Err, if◌then◌else◌}
use Rattle.outside.specs.Files.{Files}
use Rattle.cli_tool_words.specs.PlainJobs.{PlainSelect, PlainListJob, PlainFilterJob, PlainGrepJob, PlainStyle}
use Rattle.filter_style.specs.Styled.{restyled}
use Rattle.patch_filters.specs.Told.{asks_told}
use Rattle.cli_run_answers.specs.declared.fault.InputFault.{InputFault}
use Rattle.patch_set.specs.declared.fault.SetFault.{SetFault}
use Rattle.patch_set.specs.declared.fault.SetFault.TheVariants.{Garbage}
use Rattle.patch_set.specs.Refusals.{refusal}
use Rattle.filter_whole_text.specs.Texts.{defaults, patches_in}
use Rattle.filter_whole_text.specs.Outcomes.{Outcome, given}
use Rattle.filter_whole_text.specs.declared.fault.FilterFault.TheVariants as faults
use Rattle.cli_filter.specs.Texts.{filtered_in, grepped_in, listed_in, told_in}

-- the same job with another selection
abbrev pub list_with : PlainListJob → PlainSelect → PlainListJob
list_with j s = record j { select = s }

abbrev pub filter_with : PlainFilterJob → PlainSelect → PlainFilterJob
filter_with j s = record j { select = s }

abbrev pub grep_with : PlainGrepJob → PlainSelect → PlainGrepJob
grep_with j s = record j { select = s }

-- these bytes, where the text isn't refused; one without file patches gives nothing, and is no fault
abbrev pub unless_refused : Option SetFault → List ℕ → Outcome
unless_refused None bytes = Ok bytes
unless_refused (Some Garbage) bytes = Ok []
unless_refused (Some fault) bytes = Err (faults.Set fault)

-- what comes of a text and a selection
abbrev pub outcome_by : (PlainSelect → List ℕ → List ℕ) → Result (List ℕ × PlainSelect) InputFault → Outcome
outcome_by written (Ok (text, s)) = unless_refused (refusal (defaults s.skip_binary) text) (written s text)
outcome_by written (Err fault) = Err (faults.Input fault)

-- `lsdiff`
unfoldable pub list_outcome : PlainListJob → Files → List ℕ → Outcome
list_outcome j files left = outcome_by (λ s text. listed_in (list_with j s) text) (given j.input j.select files left)

-- `filterdiff`
unfoldable pub filter_outcome : PlainFilterJob → Files → List ℕ → Outcome
filter_outcome j files left = outcome_by (λ s text. filtered_in (filter_with j s) text) (given j.input j.select files left)

-- the same text with names and text as a style has them
abbrev pub styled : PlainStyle → Outcome → Outcome
styled style (Ok text) = Ok (restyled style text)
styled style (Err fault) = Err fault

-- the same where something is told of hunks, or all text is written, with names and text as the style has them
unfoldable pub told_outcome : PlainFilterJob → Files → List ℕ → Outcome
told_outcome j files left = outcome_by (λ s text. told_in (filter_with j s) text) (given j.input j.select files left)

-- `filterdiff` with its style: what it writes without one, restyled
abbrev pub untold_filter : PlainFilterJob → Files → List ℕ → Outcome
untold_filter j files left = styled j.style (filter_outcome j files left)

-- and where something is told of hunks, or all text is written
abbrev pub styled_filter : PlainFilterJob → Files → List ℕ → Outcome
styled_filter j files left = if asks_told j then told_outcome j files left else untold_filter j files left

-- `grepdiff`, for what a finder hits and a pattern that it takes
unfoldable pub grep_outcome : (List ℕ → List ℕ → Bool) → PlainGrepJob → Files → List ℕ → Outcome
grep_outcome hit j files left = outcome_by (λ s text. grepped_in (hit j.pattern) (grep_with j s) text) (given j.input j.select files left)

-- the text is read, and has file patches
abbrev pub HasPatches : Result (List ℕ × PlainSelect) InputFault → Type 0
HasPatches (Ok (text, s)) = (refusal (defaults s.skip_binary) text ≡ None) × (patches_in s.skip_binary text ≢ [])
HasPatches (Err fault) = ⊥

-- a pattern that isn't always taken may be refused instead, if there are file patches to search
abbrev pub IsGrepped : (List ℕ → Bool) → (List ℕ → List ℕ → Bool) → PlainGrepJob → Files → List ℕ → Outcome → Type 0
IsGrepped takes hit j files left o = (o ≡ grep_outcome hit j files left)
    ⊎ ((takes j.pattern ≡ false) × (o ≡ Err faults.Pattern) × HasPatches (given j.input j.select files left))
