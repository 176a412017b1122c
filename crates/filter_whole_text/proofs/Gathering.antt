-- What was read before a filter writes.
use Rattle.std.proofs.Common.{◌≡◌, ◌≢◌, ◌⊎◌, inl, inr, ⊎_elim, ℕ, Bool, true, List, [], Option, None, Some, Result, Ok, Err, refl, sym, ap, subst, ◌∙◌}
use Rattle.std.specs.Prelude.{IsErrAnd, IfSome}
use Rattle.std.proofs.lemmas.Result.{err_from_is_err_and}
use Rattle.outside.specs.Files.{Files}
use Rattle.outside.specs.TreeView.{TreeView}
use Rattle.outside.specs.Calls.{IsUntouched}
use Rattle.outside.specs.SourceView.{SourceView, SourcePasses}
use Rattle.patch_options.specs.declared.options.Input.{Input}
use Rattle.cli_tool_words.specs.PlainJobs.{PlainSelect}
use Rattle.cli_run_answers.specs.declared.fault.InputFault.{InputFault}
use Rattle.cli_run_answers.specs.Input.{IsStandard, TakesAtMost}
use Rattle.patch_set.specs.declared.fault.SetFault.{SetFault}
use Rattle.patch_set.specs.declared.fault.SetFault.TheVariants.{Malformed, Garbage, TooLong, OutMany, EdReverse, Reserved, Memory}
use Rattle.patch_set.specs.Refusals.{refusal}
use Rattle.filter_whole_text.specs.Texts.{defaults}
use Rattle.filter_whole_text.specs.Outcomes.{given}
use Rattle.filter_whole_text.specs.Sifting.{IsTold, is_refusal, HasInputCause, HasTextCause}
use Rattle.filter_whole_text.specs.Opened.{IsGarbage, IsReadOf, IsRefusedText, Opens}
use Rattle.filter_whole_text.specs.declared.fault.FilterFault.{FilterFault}
use Rattle.filter_whole_text.specs.declared.fault.FilterFault.TheVariants as faults

-- a text that isn't read is refused, or memory ran out
abbrev pub IsUnread : Bool → List ℕ → SetFault → Type 0
IsUnread skip text e = (e ≡ Memory) ⊎ ((e ≢ Garbage) × (refusal (defaults skip) text ≡ Some e))

-- the text and the selection that are given, wherever they are told
abbrev pub AreGiven : Input → PlainSelect → PlainSelect → TreeView → SourceView → List ℕ → Type 0
AreGiven i old new t a text = (f : Files) (left : List ℕ) → IsTold i old t a f left → given i old f left ≡ Ok (text, new)

module _ {V : Type 0} (Is : Bool → List ℕ → V → Type 0) (i : Input) (old new : PlainSelect) (t : TreeView) (a : SourceView) (text : List ℕ) (are : AreGiven i old new t a text) where
  pub read-opened : (v : V) → Is new.skip_binary text v → refusal (defaults new.skip_binary) text ≡ None → (f : Files) (left : List ℕ) → IsTold i old t a f left → IsReadOf Is v new (given i old f left)
  read-opened v read free f left told = record { text = text; is = are f left told; free = free; read = read }

module _ (i : Input) (old new : PlainSelect) (t : TreeView) (a : SourceView) (text : List ℕ) (are : AreGiven i old new t a text) where
  pub garbage-opened : refusal (defaults new.skip_binary) text ≡ Some Garbage → (f : Files) (left : List ℕ) → IsTold i old t a f left → IsGarbage new (given i old f left)
  garbage-opened is f left told = record { text = text; is = are f left told; garbage = is }

  pub text-refused-so : (e : SetFault) → IsUnread new.skip_binary text e → is_refusal (faults.Set e) ≡ true → (f : Files) (left : List ℕ) → IsTold i old t a f left → IsRefusedText e (given i old f left)
  text-refused-so e is refuses f left told = ⊎_elim
      (λ (memory : e ≡ Memory). absurd (let h : is_refusal (faults.Set Memory) ≡ true = sym (ap (λ x. is_refusal (faults.Set x)) memory) ∙ refuses in cc))
      (λ (here : (e ≢ Garbage) × (refusal (defaults new.skip_binary) text ≡ Some e)). record { text = text; select = new; is = are f left told; refused = here.1; some = here.0 })
      is

pub unread-cause : (skip : Bool) (text : List ℕ) (e : SetFault) → IsUnread skip text e → HasTextCause skip (faults.Set e)
unread-cause skip text (Malformed line kind) (inl never) = absurd (cc)
unread-cause skip text (Malformed line kind) (inr is) = (text, is.1)
unread-cause skip text Garbage (inl never) = absurd (cc)
unread-cause skip text Garbage (inr is) = is.0 refl
unread-cause skip text TooLong (inl never) = absurd (cc)
unread-cause skip text TooLong (inr is) = (text, is.1)
unread-cause skip text (OutMany count) (inl never) = absurd (cc)
unread-cause skip text (OutMany count) (inr is) = (text, is.1)
unread-cause skip text (EdReverse line) (inl never) = absurd (cc)
unread-cause skip text (EdReverse line) (inr is) = (text, is.1)
unread-cause skip text (Reserved line) (inl never) = absurd (cc)
unread-cause skip text (Reserved line) (inr is) = (text, is.1)
unread-cause skip text Memory is = tt

-- a fault that is passed on
pub fault-is : {X E : Type 0} (r : Result X E) (e : E) → IsErrAnd r (λ f. f ≡ e) → r ≡ Err e
fault-is r e is = let q = err_from_is_err_and r is in q.1 ∙ ap (λ f. Err f) q.2

-- ---- the whole opening
module _ {V : Type 0} (Is : Bool → List ℕ → V → Type 0) (i : Input) (old new : PlainSelect) (t u : TreeView) (a b : SourceView) (same : IsUntouched t u) (source : SourcePasses a b) (taken : TakesAtMost 268435457 a b) where
  pub opens-ungiven : (r : Result (Option V) FilterFault) (e : InputFault) → IsErrAnd r (λ f. f ≡ faults.Input e)
      → (is_refusal (faults.Input e) ≡ true → (f : Files) (left : List ℕ) → IsTold i old t a f left → given i old f left ≡ Err e) → HasInputCause e i old t u a b → Opens Is i old new t u a b r
  opens-ungiven r e is refused cause = rw (fault-is r (faults.Input e) is) record {
    untouched = same;
    source = source;
    read = tt;
    taken = taken;
    opened = tt;
    refused = refused;
    cause = cause;
  }

  module _ (text : List ℕ) (are : AreGiven i old new t a text) where
    pub opens-unread : new.skip_binary ≡ old.skip_binary → (r : Result (Option V) FilterFault) (e : SetFault) → IsErrAnd r (λ f. f ≡ faults.Set e) → IsUnread new.skip_binary text e → Opens Is i old new t u a b r
    opens-unread skips r e is unread = rw (fault-is r (faults.Set e) is) record {
      untouched = same;
      source = source;
      read = tt;
      taken = taken;
      opened = tt;
      refused = text-refused-so i old new t a text are e unread;
      cause = subst (λ (skip : Bool). HasTextCause skip (faults.Set e)) skips (unread-cause new.skip_binary text e unread);
    }

    module _ (end : IsStandard i → (left : List ℕ) → a.told ≡ Some left → b.told ≡ Some []) where
      pub opens-some : (v : V) → Is new.skip_binary text v → refusal (defaults new.skip_binary) text ≡ None → Opens Is i old new t u a b (Ok (Some v))
      opens-some v read free = record {
        untouched = same;
        source = source;
        read = end;
        taken = taken;
        opened = read-opened Is i old new t a text are v read free;
        refused = tt;
        cause = tt;
      }

      pub opens-none : refusal (defaults new.skip_binary) text ≡ Some Garbage → Opens Is i old new t u a b (Ok None)
      opens-none garbage = record {
        untouched = same;
        source = source;
        read = end;
        taken = taken;
        opened = garbage-opened i old new t a text are garbage;
        refused = tt;
        cause = tt;
      }

      pub opens-read : (set : Option V) → IfSome set (λ v. Is new.skip_binary text v × (refusal (defaults new.skip_binary) text ≡ None)) → (set ≡ None → refusal (defaults new.skip_binary) text ≡ Some Garbage)
          → Opens Is i old new t u a b (Ok set)
      opens-read None some none = opens-none (none refl)
      opens-read (Some v) some none = opens-some v some.0 some.1

-- what was read is read of some text, and the refusal of a text without file patches
pub some-read : {V : Type 0} (P : List ℕ → V → Type 0) (Q : Type 0) (text : List ℕ) (o : Option V) → IfSome o (λ v. P text v × Q) → IfSome o (λ v. (text : List ℕ) × P text v)
some-read P Q text None is = tt
some-read P Q text (Some v) is = (text, is.0)

pub garbage-told : (o : Option SetFault) (e : SetFault) → e ≡ Garbage → (e ≡ Memory) ⊎ (o ≡ Some e) → o ≡ Some Garbage
garbage-told o e is (inl memory) = let never = sym is ∙ memory in absurd cc
garbage-told o e is (inr told) = told ∙ ap (λ f. Some f) is
