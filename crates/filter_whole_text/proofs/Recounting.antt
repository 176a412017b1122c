-- From a text that was recounted to what `recountdiff` promises.
use Rattle.std.proofs.Common.{◌≡◌, inl, inr, ℕ, List, [], None, Some, Ok, Err, refl, sym, ap, ◌∙◌}
use Rattle.std.proofs.lemmas.Bool.{false≢true}
use Rattle.outside.specs.Files.{Files}
use Rattle.outside.specs.TreeView.{TreeView}
use Rattle.outside.specs.Calls.{IsUntouched}
use Rattle.outside.specs.SourceView.{SourceView, SourcePasses}
use Rattle.outside.specs.SinkView.{SinkView, sink_passes_none, IsSinkCall, Receives, ReceivesPart}
use Rattle.hunk_core.specs.declared.fault.FormFault.{FormFault}
use Rattle.hunk_core.specs.declared.fault.FormFault.TheVariants as forms
use Rattle.hunk_core.specs.Reading.{Fails}
use Rattle.patch_options.specs.declared.options.Input.{Input}
use Rattle.cli_run_answers.specs.declared.fault.InputFault.{InputFault}
use Rattle.cli_run_answers.specs.Input.{HasCause, IsAnswer, IsStandard, TakesAtMost}
use Rattle.patch_set.specs.Refusals.{of_form}
use Rattle.split_recount.specs.Recounted.{recounted}
use Rattle.filter_whole_text.specs.Outcomes.{IsOutcomeOf, no_selection, recount_outcome, recounted_as, recounted_from}
use Rattle.filter_whole_text.specs.Sifting.{HasCountCause, IsTold, Sifts, is_refusal}
use Rattle.filter_whole_text.specs.declared.fault.FilterFault.TheVariants as faults
use Rattle.filter_whole_text.proofs.Taking.{text-is, text-refused, text-cause}
use Rattle.filter_whole_text.proofs.Unwritten.{answers-none}

module _ (i : Input) (t u : TreeView) (a b : SourceView) (same : IsUntouched t u) (source : SourcePasses a b) (taken : TakesAtMost 268435457 a b) (c : SinkView) where
  pub counts-unread : (e : InputFault) → HasCause e i None t u a b → Sifts i no_selection HasCountCause ⊥ (IsOutcomeOf (recount_outcome i)) t u a b c c (Err (faults.Input e))
  counts-unread e h = record {
    untouched = same;
    source = source;
    read = tt;
    taken = taken;
    sink = sink_passes_none c;
    early = λ is. refl;
    answers = λ f left told. answers-none (is_refusal (faults.Input e)) (faults.Input e) (IsOutcomeOf (recount_outcome i) f left) c (λ refuses. sym (ap recounted_from (text-refused e i no_selection t u a b h refuses f left told)));
    cause = text-cause e i no_selection t u a b h;
  }

  module _ (text : List ℕ) (is : IsAnswer (Ok text) i None t a) where
    pub counts-refused : (e : FormFault) → Fails e (recounted text) → Sifts i no_selection HasCountCause ⊥ (IsOutcomeOf (recount_outcome i)) t u a b c c (Err (faults.Set (of_form e)))
    counts-refused (forms.Malformed line kind) fails = record {
      untouched = same;
      source = source;
      read = tt;
      taken = taken;
      sink = sink_passes_none c;
      early = λ is. refl;
      answers = λ f left told. (sym (ap recounted_from (text-is i no_selection t a (Ok text) is f left told) ∙ ap recounted_as fails), refl);
      cause = (text, fails);
    }
    counts-refused forms.Memory fails = record {
      untouched = same;
      source = source;
      read = tt;
      taken = taken;
      sink = sink_passes_none c;
      early = λ is. refl;
      answers = λ f left told. inl refl;
      cause = tt;
    }

    module _ (bytes : List ℕ) (counted : recounted text ≡ Ok bytes) (d : SinkView) where
      comes : (f : Files) (left : List ℕ) → IsTold i no_selection t a f left → IsOutcomeOf (recount_outcome i) f left (Ok bytes)
      comes f left told = sym (ap recounted_from (text-is i no_selection t a (Ok text) is f left told) ∙ ap recounted_as counted)

      pub counts-written : {E : Type 0} → (IsStandard i → (left : List ℕ) → a.told ≡ Some left → b.told ≡ Some []) → IsSinkCall {R = Unit {0}} {E = E} c d (Ok tt) → Receives c d bytes → Sifts i no_selection HasCountCause ⊥ (IsOutcomeOf (recount_outcome i)) t u a b c d (Ok tt)
      counts-written end call received = record {
        untouched = same;
        source = source;
        read = end;
        taken = taken;
        sink = call.passes;
        early = tt;
        answers = λ f left told. (bytes, comes f left told, received);
        cause = tt;
      }

      pub counts-cut : {R E : Type 0} (e : E) → IsSinkCall {R = R} c d (Err e) → ReceivesPart c d bytes → Sifts i no_selection HasCountCause ⊥ (IsOutcomeOf (recount_outcome i)) t u a b c d (Err faults.Write)
      counts-cut e call part = record {
        untouched = same;
        source = source;
        read = tt;
        taken = taken;
        sink = call.passes;
        early = λ is. absurd (false≢true is);
        answers = λ f left told. inr (bytes, comes f left told, part);
        cause = call.cause refl;
      }
