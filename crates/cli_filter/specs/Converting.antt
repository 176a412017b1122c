-- What `filterdiff` comes to where it is asked for a form, by the job, the files of the tree and what standard input has left alone.
use Rattle.std.specs.Prelude.{◌≡◌, ℕ, List, [], Option, None, Some, Result, Ok, Err, length}
use Rattle.std.specs.List.{flat_map, range_with_len, zip}
use Rattle.line_list.specs.Completed.{completed}
use Rattle.hunk_core.specs.declared.Form.{Form}
use Rattle.outside.specs.Files.{Files}
use Rattle.outside.specs.TreeView.{TreeView}
use Rattle.outside.specs.Calls.{IsUntouched}
use Rattle.outside.specs.SourceView.{SourceView, SourcePasses}
use Rattle.outside.specs.SinkView.{SinkView}
use Rattle.cli_tool_words.specs.PlainJobs.{PlainSelect, PlainFilterJob, PlainStyle}
use Rattle.filter_style.specs.Styled.{restyled}
use Rattle.cli_run_answers.specs.declared.fault.InputFault.{InputFault}
use Rattle.cli_run_answers.specs.Input.{IsStandard, TakesAtMost}
use Rattle.patch_set.specs.declared.fault.SetFault.{SetFault}
use Rattle.patch_set.specs.declared.fault.SetFault.TheVariants.{Garbage}
use Rattle.patch_set.specs.Refusals.{refusal}
use Rattle.format_convert.specs.Taken.{left_patches}
use Rattle.format_convert.specs.declared.fault.ConvertFault.{ConvertFault}
use Rattle.format_convert.specs.declared.fault.ConvertFault.TheVariants as convert
use Rattle.format_convert.specs.Converted.{written_of}
use Rattle.format_convert.specs.Refusals.{refusal as form_refusal}
use Rattle.filter_whole_text.specs.Texts.{Spot, defaults, patches_in, pieces_of, spots_in}
use Rattle.filter_whole_text.specs.Outcomes.{Outcome, given}
use Rattle.cli_filter.specs.Outcomes.{filter_with}
use Rattle.filter_whole_text.specs.Sifting.{HasTextCause, IsTold, Sifts}
use Rattle.filter_whole_text.specs.declared.fault.FilterFault.TheVariants as faults
use Rattle.cli_filter.specs.declared.form_fault.FormFault.{FormFault}
use Rattle.cli_filter.specs.declared.form_fault.FormFault.TheVariants.{Filter, NoContext, Unfit}

-- the text that is written, or why nothing is
abbrev pub FormOutcome : Type 0
FormOutcome = Result (List ℕ) FormFault

-- what is written of a file patch behind its number, counted from 0
abbrev pub spot_converted : Form → PlainFilterJob → List ℕ → ℕ × Spot → List ℕ
spot_converted form j text n = written_of form j text n.0 n.1.0.header (pieces_of text n.1.0) n.1.1

-- what is written in a form of the file patches of a text
unfoldable pub converted_in : Form → PlainFilterJob → List ℕ → List ℕ
converted_in form j text = flat_map (spot_converted form j (completed text)) (zip (range_with_len 0 (length (spots_in j.select.skip_binary text))) (spots_in j.select.skip_binary text))

-- why a text isn't written in a form
abbrev pub form_refused : Form → PlainFilterJob → List ℕ → Option ConvertFault
form_refused form j text = form_refusal form (left_patches j (patches_in j.select.skip_binary text))

-- what a fault of the writing is
abbrev pub of_convert : ConvertFault → FormFault
of_convert (convert.NoContext line) = NoContext line
of_convert (convert.Unfit line) = Unfit line
of_convert convert.Write = Filter faults.Write

-- what a filter with a form answers where the writing has answered so
abbrev pub of_converted : Result (Unit {0}) ConvertFault → Result (Unit {0}) FormFault
of_converted (Ok done) = Ok done
of_converted (Err e) = Err (of_convert e)

-- these bytes, where the text can be written in the form
abbrev pub unless_unfit : Option ConvertFault → List ℕ → FormOutcome
unless_unfit None bytes = Ok bytes
unless_unfit (Some fault) bytes = Err (of_convert fault)

-- the same where the text isn't refused; one without file patches gives nothing, and is no fault
abbrev pub unless_unread : Option SetFault → FormOutcome → FormOutcome
unless_unread None o = o
unless_unread (Some Garbage) o = Ok []
unless_unread (Some fault) o = Err (Filter (faults.Set fault))

-- what comes of a text and a selection
abbrev pub converted_by : Form → PlainFilterJob → Result (List ℕ × PlainSelect) InputFault → FormOutcome
converted_by form j (Ok (text, s)) = unless_unread (refusal (defaults s.skip_binary) text) (unless_unfit (form_refused form (filter_with j s) text) (converted_in form (filter_with j s) text))
converted_by form j (Err fault) = Err (Filter (faults.Input fault))

-- `filterdiff` with a form
unfoldable pub convert_outcome : Form → PlainFilterJob → Files → List ℕ → FormOutcome
convert_outcome form j files left = converted_by form j (given j.input j.select files left)

-- the same with its style
abbrev pub styled_form : PlainStyle → FormOutcome → FormOutcome
styled_form style (Ok text) = Ok (restyled style text)
styled_form style (Err fault) = Err fault

abbrev pub styled_convert : Form → PlainFilterJob → Files → List ℕ → FormOutcome
styled_convert form j files left = styled_form j.style (convert_outcome form j files left)

-- ---- what a run promises, of which this is the outcome

-- an outcome without a refusal for the form
abbrev pub as_form : Outcome → FormOutcome
as_form (Ok bytes) = Ok bytes
as_form (Err fault) = Err (Filter fault)

abbrev pub IsConverted : (Files → List ℕ → FormOutcome) → Files → List ℕ → Outcome → Type 0
IsConverted outcome files left o = outcome files left ≡ as_form o

-- some text and some selection are refused so for the form
abbrev pub HasFormCause : Form → PlainFilterJob → ConvertFault → Type 0
HasFormCause form j fault = (text : List ℕ) × (s : PlainSelect) × (form_refused form (filter_with j s) text ≡ Some fault)

-- a refusal for the form is the definition's, and comes before anything is written
pub record Refuses (form : Form) (j : PlainFilterJob) (outcome : Files → List ℕ → FormOutcome) (t u : TreeView) (a b : SourceView) (c d : SinkView) (fault : ConvertFault) : Type 0 where
  pub untouched : IsUntouched t u
  pub source : SourcePasses a b
  pub read : IsStandard j.input → (left : List ℕ) → a.told ≡ Some left → b.told ≡ Some []
  pub taken : TakesAtMost 268435457 a b
  pub out : d ≡ c
  pub answers : (f : Files) (left : List ℕ) → IsTold j.input j.select t a f left → outcome f left ≡ Err (of_convert fault)
  pub cause : HasFormCause form j fault

-- a run with a form is as that of a filter, but for the refusals for the form
abbrev pub Forms : Form → PlainFilterJob → (Files → List ℕ → FormOutcome) → TreeView → TreeView → SourceView → SourceView → SinkView → SinkView → Result (Unit {0}) FormFault → Type 0
Forms form j outcome t u a b c d (Ok done) = Sifts j.input j.select (HasTextCause j.select.skip_binary) ⊥ (IsConverted outcome) t u a b c d (Ok done)
Forms form j outcome t u a b c d (Err (Filter fault)) = Sifts j.input j.select (HasTextCause j.select.skip_binary) ⊥ (IsConverted outcome) t u a b c d (Err fault)
Forms form j outcome t u a b c d (Err (NoContext line)) = Refuses form j outcome t u a b c d (convert.NoContext line)
Forms form j outcome t u a b c d (Err (Unfit line)) = Refuses form j outcome t u a b c d (convert.Unfit line)
