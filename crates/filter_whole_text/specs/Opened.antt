-- What a filter has read before it writes.
use Rattle.std.specs.Prelude.{◌≡◌, ◌≢◌, ℕ, Bool, List, [], Option, None, Some, Result, Ok, Err, true, IfOk, IfErr, OnOk}
use Rattle.outside.specs.Files.{Files}
use Rattle.outside.specs.TreeView.{TreeView}
use Rattle.outside.specs.Calls.{IsUntouched}
use Rattle.outside.specs.SourceView.{SourceView, SourcePasses}
use Rattle.patch_options.specs.declared.options.Input.{Input}
use Rattle.cli_tool_words.specs.PlainJobs.{PlainSelect}
use Rattle.cli_run_answers.specs.declared.fault.InputFault.{InputFault}
use Rattle.cli_run_answers.specs.Input.{IsStandard, TakesAtMost}
use Rattle.patch_set.specs.declared.fault.SetFault.{SetFault}
use Rattle.patch_set.specs.declared.fault.SetFault.TheVariants.{Garbage}
use Rattle.patch_set.specs.Refusals.{refusal}
use Rattle.patch_set.specs.SetView.{SetView, IsRead}
use Rattle.filter_choice.specs.Digested.{DigestView, IsDigestOf}
use Rattle.filter_choice.specs.Outlined.{IsOutline, OutlineView}
use Rattle.filter_whole_text.specs.Texts.{defaults}
use Rattle.filter_whole_text.specs.Outcomes.{given}
use Rattle.filter_whole_text.specs.Sifting.{IsTold, is_refusal, HasInputCause, HasTextCause}
use Rattle.filter_whole_text.specs.declared.fault.FilterFault.{FilterFault}
use Rattle.filter_whole_text.specs.declared.fault.FilterFault.TheVariants as faults

-- what is read of a text: a set, an outline, or a digest
abbrev pub IsSet : Bool → List ℕ → SetView → Type 0
IsSet skip text v = IsRead (defaults skip) text v

abbrev pub IsOutlineOf : Bool → List ℕ → OutlineView → Type 0
IsOutlineOf skip text v = IsOutline (defaults skip) text v

abbrev pub IsDigestIn : Bool → List ℕ → DigestView → Type 0
IsDigestIn skip text v = IsDigestOf (defaults skip) text v

-- a text and a selection are given, and this is read from the text
pub record IsReadOf {V : Type 0} (Is : Bool → List ℕ → V → Type 0) (v : V) (s : PlainSelect) (x : Result (List ℕ × PlainSelect) InputFault) : Type 0 where
  pub text : List ℕ
  pub is : x ≡ Ok (text, s)
  pub free : refusal (defaults s.skip_binary) text ≡ None
  pub read : Is s.skip_binary text v

-- the set is read from some text, of which binary changes are passed over or not
abbrev pub IsReadOfSome : Bool → SetView → Type 0
IsReadOfSome skip v = (text : List ℕ) × IsRead (defaults skip) text v

-- a text without file patches
pub record IsGarbage (s : PlainSelect) (x : Result (List ℕ × PlainSelect) InputFault) : Type 0 where
  pub text : List ℕ
  pub is : x ≡ Ok (text, s)
  pub garbage : refusal (defaults s.skip_binary) text ≡ Some Garbage

-- a text that is refused
pub record IsRefusedText (e : SetFault) (x : Result (List ℕ × PlainSelect) InputFault) : Type 0 where
  pub text : List ℕ
  pub select : PlainSelect
  pub is : x ≡ Ok (text, select)
  pub refused : refusal (defaults select.skip_binary) text ≡ Some e
  pub some : e ≢ Garbage

abbrev pub IsOpened : {V : Type 0} → (Bool → List ℕ → V → Type 0) → Option V → PlainSelect → Result (List ℕ × PlainSelect) InputFault → Type 0
IsOpened Is None s x = IsGarbage s x
IsOpened Is (Some v) s x = IsReadOf Is v s x

abbrev pub IsRefused : FilterFault → Result (List ℕ × PlainSelect) InputFault → Type 0
IsRefused (faults.Input e) x = x ≡ Err e
IsRefused (faults.Set e) x = IsRefusedText e x
IsRefused (faults.Unfit line) x = ⊥
IsRefused faults.Pattern x = ⊥
IsRefused faults.Tree x = ⊥
IsRefused faults.Write x = ⊥
IsRefused faults.Memory x = ⊥

-- what a fault says, whatever is told
abbrev pub HasOpeningCause : FilterFault → Input → PlainSelect → TreeView → TreeView → SourceView → SourceView → Type 0
HasOpeningCause (faults.Input e) i s t u a b = HasInputCause e i s t u a b
HasOpeningCause (faults.Set e) i s t u a b = HasTextCause s.skip_binary (faults.Set e)
HasOpeningCause (faults.Unfit line) i s t u a b = ⊥
HasOpeningCause faults.Pattern i s t u a b = ⊥
HasOpeningCause faults.Tree i s t u a b = ⊥
HasOpeningCause faults.Write i s t u a b = ⊥
HasOpeningCause faults.Memory i s t u a b = Unit {0}

-- the text is read, then the files of patterns, by which one selection becomes another; then the file patches of the text
pub record Opens {V : Type 0} (Is : Bool → List ℕ → V → Type 0) (i : Input) (old new : PlainSelect) (t u : TreeView) (a b : SourceView) (result : Result (Option V) FilterFault) : Type 0 where
  pub untouched : IsUntouched t u
  pub source : SourcePasses a b
  pub read : OnOk result (IsStandard i → (left : List ℕ) → a.told ≡ Some left → b.told ≡ Some [])
  pub taken : TakesAtMost 268435457 a b
  pub opened : IfOk result (λ given_set. (f : Files) (left : List ℕ) → IsTold i old t a f left → IsOpened Is given_set new (given i old f left))
  pub refused : IfErr result (λ e. is_refusal e ≡ true → (f : Files) (left : List ℕ) → IsTold i old t a f left → IsRefused e (given i old f left))
  pub cause : IfErr result (λ e. HasOpeningCause e i old t u a b)
