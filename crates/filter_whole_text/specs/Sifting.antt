-- What a filter promises: that it is the definition's, and what each answer says of the devices.
use Rattle.std.specs.Prelude.{◌≡◌, ◌≢◌, ◌⊎◌, ℕ, List, Bool, true, false, None, Some, Result, Ok, Err, IfErr, OnOk, []}
use Rattle.outside.specs.Faults.{HasRisen}
use Rattle.outside.specs.Files.{Files}
use Rattle.outside.specs.TreeView.{TreeView, Rises}
use Rattle.outside.specs.Calls.{IsUntouched}
use Rattle.outside.specs.SourceView.{SourceView, SourcePasses}
use Rattle.outside.specs.SinkView.{SinkView, SinkPasses, Receives, ReceivesPart}
use Rattle.outside.specs.SinkView as sink
use Rattle.patch_options.specs.declared.options.Input.{Input}
use Rattle.cli_tool_words.specs.PlainJobs.{PlainSelect}
use Rattle.cli_run_answers.specs.declared.fault.InputFault.{InputFault}
use Rattle.cli_run_answers.specs.declared.fault.InputFault.TheVariants as input
use Rattle.cli_run_answers.specs.Input.{IsStandard, TakesAtMost}
use Rattle.patch_set.specs.declared.fault.SetFault.{SetFault}
use Rattle.patch_set.specs.declared.fault.SetFault.TheVariants as set
use Rattle.patch_set.specs.Refusals.{refusal}
use Rattle.split_recount.specs.Recounted.{recounted}
use Rattle.filter_whole_text.specs.Texts.{defaults}
use Rattle.filter_whole_text.specs.Outcomes.{Outcome}
use Rattle.filter_whole_text.specs.declared.fault.FilterFault.{FilterFault}
use Rattle.filter_whole_text.specs.declared.fault.FilterFault.TheVariants as faults

-- a file of patterns is named
abbrev pub NamesPatterns : PlainSelect → Type 0
NamesPatterns s = (s.include_file ≢ None) ⊎ (s.exclude_file ≢ None)

-- a file is named for the text or for patterns
abbrev pub NamesFile : Input → PlainSelect → Type 0
NamesFile i s = (IsStandard i → ⊥) ⊎ NamesPatterns s

-- all that is read is told: the files where one is named, and what standard input has left where the text comes from there
pub record IsTold (i : Input) (s : PlainSelect) (t : TreeView) (a : SourceView) (f : Files) (rest : List ℕ) : Type 0 where
  pub files : NamesFile i s → t.told ≡ Some f
  pub left : IsStandard i → a.told ≡ Some rest

-- the answer is one of the definition, and comes before anything is written; the others are faults of devices and want of memory
abbrev pub is_refusal : FilterFault → Bool
is_refusal (faults.Input input.NoPatchFile) = true
is_refusal (faults.Input input.TooLong) = true
is_refusal (faults.Input input.Source) = false
is_refusal (faults.Input input.Tree) = false
is_refusal (faults.Input (input.Disagree want got)) = false
is_refusal (faults.Input input.Memory) = false
is_refusal (faults.Set (set.Malformed line kind)) = true
is_refusal (faults.Set set.Garbage) = true
is_refusal (faults.Set set.TooLong) = true
is_refusal (faults.Set (set.OutMany count)) = true
is_refusal (faults.Set (set.EdReverse line)) = true
is_refusal (faults.Set (set.Reserved line)) = true
is_refusal (faults.Set set.Memory) = false
is_refusal (faults.Unfit line) = true
is_refusal faults.Pattern = true
is_refusal faults.Tree = false
is_refusal faults.Write = false
is_refusal faults.Memory = false

-- it comes before anything is written
abbrev pub is_early : FilterFault → Bool
is_early faults.Tree = false
is_early faults.Write = false
is_early faults.Memory = false
is_early e = true

-- a refusal is the definition's; after a fault nothing was written, or a first part of what is
abbrev pub AnswersFault : Bool → FilterFault → (Outcome → Type 0) → SinkView → SinkView → Type 0
AnswersFault true e P c d = P (Err e) × (d ≡ c)
AnswersFault false e P c d = (d ≡ c) ⊎ ((bytes : List ℕ) × P (Ok bytes) × ReceivesPart c d bytes)

-- what an answer says, of the outcomes that the definition allows
abbrev pub Answers : Result (Unit {0}) FilterFault → (Outcome → Type 0) → SinkView → SinkView → Type 0
Answers (Ok done) P c d = (bytes : List ℕ) × P (Ok bytes) × Receives c d bytes
Answers (Err e) P c d = AnswersFault (is_refusal e) e P c d

-- some text is refused so, where binary changes are passed over or not
abbrev pub IsRefusal : Bool → SetFault → Type 0
IsRefusal skip fault = (text : List ℕ) × (refusal (defaults skip) text ≡ Some fault)

-- what a fault of reading says, whatever is told
abbrev pub HasInputCause : InputFault → Input → PlainSelect → TreeView → TreeView → SourceView → SourceView → Type 0
HasInputCause input.NoPatchFile i s t u a b = NamesFile i s
HasInputCause input.TooLong i s t u a b = Unit {0}
HasInputCause input.Source i s t u a b = IsStandard i × HasRisen a.faults b.faults
HasInputCause input.Tree i s t u a b = Rises t u
HasInputCause (input.Disagree want got) i s t u a b = NamesFile i s × (want ≢ got) × (t.told ≡ None)
HasInputCause input.Memory i s t u a b = Unit {0}

abbrev pub HasSetCause : Bool → SetFault → Type 0
HasSetCause skip set.Memory = Unit {0}
HasSetCause skip fault = IsRefusal skip fault

-- what a text that is refused says
abbrev pub HasRefusal : Bool → FilterFault → Type 0
HasRefusal skip (faults.Set fault) = HasSetCause skip fault
HasRefusal skip e = ⊥

-- the same where a text without file patches isn't refused
abbrev pub HasTextCause : Bool → FilterFault → Type 0
HasTextCause skip (faults.Set set.Garbage) = ⊥
HasTextCause skip e = HasRefusal skip e

-- some text can't be recounted for this
abbrev pub HasCountCause : FilterFault → Type 0
HasCountCause (faults.Set (set.Malformed line kind)) = (text : List ℕ) × (recounted text ≡ Err (record { line = line; kind = kind }))
HasCountCause (faults.Set set.Memory) = Unit {0}
HasCountCause e = ⊥

-- what a fault says of the devices before and after, whatever is told; no parts are put. R says why a text is refused, and Q holds where
-- the pattern isn't taken
abbrev pub HasCause : FilterFault → Input → PlainSelect → (FilterFault → Type 0) → Type 0 → TreeView → TreeView → SourceView → SourceView → SinkView → SinkView → Type 0
HasCause (faults.Input e) i s R Q t u a b c d = HasInputCause e i s t u a b
HasCause (faults.Set e) i s R Q t u a b c d = R (faults.Set e)
HasCause (faults.Unfit line) i s R Q t u a b c d = R (faults.Unfit line)
HasCause faults.Pattern i s R Q t u a b c d = Q
HasCause faults.Tree i s R Q t u a b c d = ⊥
HasCause faults.Write i s R Q t u a b c d = sink.Rises c d
HasCause faults.Memory i s R Q t u a b c d = Unit {0}

-- a filter reads and writes, and leaves the tree as it is
pub record Sifts (i : Input) (s : PlainSelect) (R : FilterFault → Type 0) (Q : Type 0) (IsOutcome : Files → List ℕ → Outcome → Type 0) (t u : TreeView) (a b : SourceView) (c d : SinkView) (result : Result (Unit {0}) FilterFault) : Type 0 where
  pub untouched : IsUntouched t u
  pub source : SourcePasses a b
  -- standard input is read to its end where it is read
  pub read : OnOk result (IsStandard i → (left : List ℕ) → a.told ≡ Some left → b.told ≡ Some [])
  pub taken : TakesAtMost 268435457 a b
  pub sink : SinkPasses c d
  pub early : IfErr result (λ e. is_early e ≡ true → d ≡ c)
  pub answers : (f : Files) (left : List ℕ) → IsTold i s t a f left → Answers result (IsOutcome f left) c d
  pub cause : IfErr result (λ e. HasCause e i s R Q t u a b c d)
