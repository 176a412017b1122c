-- How a file is split: its parts are put beside it, and their names are written (manual page of `splitdiff`).
use Rattle.std.specs.Prelude.{◌≡◌, ◌≢◌, ◌⊎◌, ℕ, List, Bool, true, false, Option, None, Some, Result, Ok, Err, IfErr, OnOk}
use Rattle.std.specs.FinMap.{get}
use Rattle.line_list.specs.Completed.{completed}
use Rattle.outside.specs.Files.{Files}
use Rattle.outside.specs.TreeView.{TreeView, Passes, Rises}
use Rattle.outside.specs.SinkView.{SinkView, SinkPasses}
use Rattle.outside.specs.SinkView as sink
use Rattle.outside.specs.Quiet.{IsQuiet}
use Rattle.cli_tool_words.specs.PlainJobs.{PlainSplitJob}
use Rattle.cli_run_answers.specs.declared.fault.InputFault.{InputFault}
use Rattle.cli_run_answers.specs.declared.fault.InputFault.TheVariants as input
use Rattle.cli_run_answers.specs.Input.{answer_of}
use Rattle.patch_set.specs.declared.fault.SetFault.{SetFault}
use Rattle.patch_set.specs.Refusals.{refusal}
use Rattle.patch_set.specs.SetView.{SetView, IsRead}
use Rattle.filter_whole_text.specs.Texts.{defaults, parts_in, rows_in}
use Rattle.filter_whole_text.specs.Sifting.{is_refusal, HasSetCause}
use Rattle.filter_whole_text.specs.PartNames.{part_names}
use Rattle.filter_whole_text.specs.Parting.{Part, named_parts, IsNotBegun, ArePut, AreCutAt, TidyAfter}
use Rattle.filter_whole_text.specs.declared.fault.FilterFault.{FilterFault}
use Rattle.filter_whole_text.specs.declared.fault.FilterFault.TheVariants as faults

-- ---- the definition

-- a text without file patches is refused, unless it is empty
abbrev pub cut_unless : PlainSplitJob → Option SetFault → List ℕ → Result (List Part) FilterFault
cut_unless j None text = Ok (named_parts (completed text) (part_names j (rows_in j text) (parts_in j text)) (parts_in j text))
cut_unless j (Some fault) text = Err (faults.Set fault)

abbrev pub cut_of : PlainSplitJob → Result (List ℕ) InputFault → Result (List Part) FilterFault
cut_of j (Ok text) = cut_unless j (refusal (defaults j.skip_binary) text) text
cut_of j (Err fault) = Err (faults.Input fault)

-- the parts that are put, or why none is
unfoldable pub split_outcome : PlainSplitJob → Files → Result (List Part) FilterFault
split_outcome j files = cut_of j (answer_of (get files j.input))

-- ---- the set that is read

abbrev pub SplitsBy : Bool → Option SetFault → List ℕ → Result SetView FilterFault → Type 0
SplitsBy skip None text o = (v : SetView) × IsRead (defaults skip) text v × (o ≡ Ok v)
SplitsBy skip (Some fault) text o = o ≡ Err (faults.Set fault)

abbrev pub SplitsText : Bool → Result (List ℕ) InputFault → Result SetView FilterFault → Type 0
SplitsText skip (Ok text) o = SplitsBy skip (refusal (defaults skip) text) text o
SplitsText skip (Err fault) o = o ≡ Err (faults.Input fault)

-- the set of which the parts are put, or why none is
abbrev pub IsSplit : PlainSplitJob → Files → Result SetView FilterFault → Type 0
IsSplit j f o = SplitsText j.skip_binary (answer_of (get f j.input)) o

-- ---- the run

-- the parts are the command's
abbrev pub SplitFault : Bool → FilterFault → PlainSplitJob → Files → TreeView → TreeView → SinkView → SinkView → Type 0
SplitFault true e j f t u c d = split_outcome j f ≡ Err e
SplitFault false e j f t u c d = IsNotBegun t u c d ⊎ ((parts : List Part) × (split_outcome j f ≡ Ok parts) × ((k : ℕ) × AreCutAt parts e f t u c d k))

abbrev pub SplitAnswers : Result (Unit {0}) FilterFault → PlainSplitJob → Files → TreeView → TreeView → SinkView → SinkView → Type 0
SplitAnswers (Ok done) j f t u c d = (parts : List Part) × (split_outcome j f ≡ Ok parts) × ArePut parts f t u c d
SplitAnswers (Err e) j f t u c d = SplitFault (is_refusal e) e j f t u c d

-- what a fault says, whatever is told
abbrev pub HasReadCause : InputFault → TreeView → TreeView → Type 0
HasReadCause input.NoPatchFile t u = Unit {0}
HasReadCause input.TooLong t u = Unit {0}
HasReadCause input.Source t u = ⊥
HasReadCause input.Tree t u = Rises t u
HasReadCause (input.Disagree want got) t u = (want ≢ got) × (t.told ≡ None)
HasReadCause input.Memory t u = Unit {0}

-- of a fault that comes before the first part
abbrev pub HasEarlyCause : Bool → FilterFault → TreeView → TreeView → Type 0
HasEarlyCause skip (faults.Input e) t u = HasReadCause e t u
HasEarlyCause skip (faults.Set e) t u = HasSetCause skip e
HasEarlyCause skip (faults.Unfit line) t u = ⊥
HasEarlyCause skip faults.Pattern t u = ⊥
HasEarlyCause skip faults.Tree t u = ⊥
HasEarlyCause skip faults.Write t u = ⊥
HasEarlyCause skip faults.Memory t u = ⊥

abbrev pub HasSplitCause : Bool → FilterFault → TreeView → TreeView → SinkView → SinkView → Type 0
HasSplitCause skip (faults.Input e) t u c d = HasReadCause e t u
HasSplitCause skip (faults.Set e) t u c d = HasSetCause skip e
HasSplitCause skip (faults.Unfit line) t u c d = ⊥
HasSplitCause skip faults.Pattern t u c d = ⊥
HasSplitCause skip faults.Tree t u c d = Rises t u
HasSplitCause skip faults.Write t u c d = sink.Rises c d
HasSplitCause skip faults.Memory t u c d = Unit {0}

-- a command of `splitdiff` on a quiet tree
pub record Splits (j : PlainSplitJob) (t u : TreeView) (c d : SinkView) (result : Result (Unit {0}) FilterFault) : Type 0 where
  pub tree : Passes t u
  pub sink : SinkPasses c d
  pub quiet : OnOk result (IsQuiet u)
  -- a refusal comes before the first part is put
  pub refused : IfErr result (λ e. is_refusal e ≡ true → IsNotBegun t u c d)
  pub answers : (f : Files) → t.told ≡ Some f → SplitAnswers result j f t u c d
  pub tidy : TidyAfter result t u
  pub cause : IfErr result (λ e. HasSplitCause j.skip_binary e t u c d)
