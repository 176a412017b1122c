-- From a set that is read to what `filterdiff` with a form comes to, and what a run promises then.
use Rattle.std.proofs.Common.{◌≡◌, ℕ, List, [], Option, None, Some, Result, Ok, Err, refl, sym, ap, ◌∙◌, inr}
use Rattle.std.specs.Prelude.{IfSome}
use Rattle.std.proofs.lemmas.Bool.{false≢true}
use Rattle.hunk_core.specs.declared.Form.{Form}
use Rattle.outside.specs.Files.{Files}
use Rattle.outside.specs.TreeView.{TreeView}
use Rattle.outside.specs.SourceView.{SourceView}
use Rattle.outside.specs.SinkView.{SinkView, sink_passes_none}
use Rattle.outside.proofs.Writing.{received_none}
use Rattle.cli_tool_words.specs.PlainJobs.{PlainSelect, PlainFilterJob}
use Rattle.cli_run_answers.specs.declared.fault.InputFault.{InputFault}
use Rattle.patch_set.specs.declared.fault.SetFault.{SetFault}
use Rattle.patch_set.specs.declared.fault.SetFault.TheVariants.{Malformed, Garbage, TooLong, OutMany, EdReverse, Reserved, Memory}
use Rattle.patch_set.specs.SetView.{SetView, plain_patches}
use Rattle.format_convert.specs.Taken.{left_patches}
use Rattle.format_convert.specs.declared.fault.ConvertFault.{ConvertFault}
use Rattle.format_convert.specs.declared.fault.ConvertFault.TheVariants as convert
use Rattle.format_convert.specs.Converted.{Converts, converted}
use Rattle.format_convert.specs.Refusals.{refusal as form_refusal}
use Rattle.cli_filter.specs.Converting.{FormOutcome, Forms, HasFormCause, IsConverted, convert_outcome, converted_by, converted_in, of_convert, of_converted, unless_unfit, unless_unread}
use Rattle.cli_filter.specs.Outcomes.{filter_with}
use Rattle.filter_whole_text.specs.Outcomes.{given}
use Rattle.filter_whole_text.specs.Sifting.{IsTold, is_refusal}
use Rattle.filter_whole_text.specs.Opened.{IsGarbage, IsReadOf, IsReadOfSome, IsSet, IsRefused, Opens}
use Rattle.filter_whole_text.specs.declared.fault.FilterFault.{FilterFault}
use Rattle.filter_whole_text.specs.declared.fault.FilterFault.TheVariants as faults
use Rattle.cli_filter.specs.declared.form_fault.FormFault.TheVariants.{Filter}
use Rattle.cli_filter.proofs.ByText.{converted-by, form-by}
use Rattle.filter_whole_text.proofs.Unwritten.{answers-none}
use Rattle.cli_filter.proofs.Written.{opening-cause}

module _ (form : Form) (j : PlainFilterJob) where
  outcome-is : (f : Files) (left : List ℕ) → convert_outcome form j f left ≡ converted_by form j (given j.input j.select f left)
  unfolding convert_outcome
  outcome-is f left = refl

  -- ---- what was read decides what comes

  module _ (x : Result (List ℕ × PlainSelect) InputFault) where
    pub by-read : (s : PlainSelect) (v : SetView) → IsReadOf IsSet v s x → converted_by form j x ≡ unless_unfit (form_refusal form (left_patches (filter_with j s) (plain_patches v))) (converted form (filter_with j s) v)
    by-read s v h = rw (h.is, h.free)
        (ap (λ (r : Option ConvertFault). unless_unfit r (converted_in form (filter_with j s) h.text)) (sym (form-by form (filter_with j s) h.text v h.read))
        ∙ ap (unless_unfit (form_refusal form (left_patches (filter_with j s) (plain_patches v)))) (sym (converted-by form (filter_with j s) h.text v h.read)))

    by-none : (s : PlainSelect) → IsGarbage s x → converted_by form j x ≡ Ok []
    by-none s h = rw (h.is, h.garbage) refl

  by-fault : (e : SetFault) (o : FormOutcome) → (e ≡ Garbage → ⊥) → unless_unread (Some e) o ≡ Err (Filter (faults.Set e))
  by-fault (Malformed line kind) o some = refl
  by-fault Garbage o some = absurd (some refl)
  by-fault TooLong o some = refl
  by-fault (OutMany count) o some = refl
  by-fault (EdReverse line) o some = refl
  by-fault (Reserved line) o some = refl
  by-fault Memory o some = refl

  by-refused : (e : FilterFault) (x : Result (List ℕ × PlainSelect) InputFault) → IsRefused e x → converted_by form j x ≡ Err (Filter e)
  by-refused (faults.Input e) x is = rw is refl
  by-refused (faults.Set e) x is = rw (is.is, is.refused) (by-fault e _ is.some)
  by-refused (faults.Unfit line) x is = absurd is
  by-refused faults.Pattern x is = absurd is
  by-refused faults.Tree x is = absurd is
  by-refused faults.Write x is = absurd is
  by-refused faults.Memory x is = absurd is

  -- ---- what a run promises

  module _ (new : PlainSelect) (t u : TreeView) (a b : SourceView) where
    pub forms-unopened : (e : FilterFault) (c : SinkView) → Opens IsSet j.input j.select new t u a b (Err e) → Forms form j (convert_outcome form j) t u a b c c (Err (Filter e))
    forms-unopened e c h = record {
      untouched = h.untouched;
      source = h.source;
      read = tt;
      taken = h.taken;
      sink = sink_passes_none c;
      early = λ is. refl;
      answers = λ f left told. answers-none (is_refusal e) e (IsConverted (convert_outcome form j) f left) c (λ refuses. outcome-is f left ∙ by-refused e (given j.input j.select f left) (h.refused refuses f left told));
      cause = opening-cause e j.input j.select ⊥ t u a b c h.cause;
    }

    pub forms-nothing : (c : SinkView) → Opens IsSet j.input j.select new t u a b (Ok None) → Forms form j (convert_outcome form j) t u a b c c (Ok tt)
    forms-nothing c h = record {
      untouched = h.untouched;
      source = h.source;
      read = h.read;
      taken = h.taken;
      sink = sink_passes_none c;
      early = tt;
      answers = λ f left told. ([], outcome-is f left ∙ by-none (given j.input j.select f left) new (h.opened f left told), received_none c);
      cause = tt;
    }

    module _ (v : SetView) (h : Opens IsSet j.input j.select new t u a b (Ok (Some v))) where
      abbrev refused : Option ConvertFault
      refused = form_refusal form (left_patches (filter_with j new) (plain_patches v))

      abbrev bytes : List ℕ
      bytes = converted form (filter_with j new) v

      comes : (f : Files) (left : List ℕ) → IsTold j.input j.select t a f left → convert_outcome form j f left ≡ unless_unfit refused bytes
      comes f left told = outcome-is f left ∙ by-read (given j.input j.select f left) new v (h.opened f left told)

      comes-so : (r : Option ConvertFault) → refused ≡ r → (f : Files) (left : List ℕ) → IsTold j.input j.select t a f left → convert_outcome form j f left ≡ unless_unfit r bytes
      comes-so r is f left told = comes f left told ∙ ap (λ (x : Option ConvertFault). unless_unfit x bytes) is

      module _ {O : Type 0} (view : O → SinkView) (same : O → O → Type 0) (x y : O) where
        pub forms-written : Converts view same x y (Ok tt) refused bytes → Forms form j (convert_outcome form j) t u a b (view x) (view y) (Ok tt)
        forms-written w = record {
          untouched = h.untouched;
          source = h.source;
          read = h.read;
          taken = h.taken;
          sink = w.passes;
          early = tt;
          answers = λ f left told. (bytes, comes-so None w.accepted f left told, w.received);
          cause = tt;
        }

        module _ (some : IsReadOfSome new.skip_binary v) where
          refused-so : (e : ConvertFault) → refused ≡ Some e → HasFormCause form j e
          refused-so e is = (some.0, new, sym (form-by form (filter_with j new) some.0 v some.1) ∙ is)

          pub forms-refused : (e : ConvertFault) → Converts view same x y (Err e) refused bytes → Forms form j (convert_outcome form j) t u a b (view x) (view y) (Err (of_convert e))
          forms-refused (convert.NoContext line) w = record {
            untouched = h.untouched;
            source = h.source;
            read = h.read;
            taken = h.taken;
            out = ap view w.cause.1;
            answers = λ f left told. comes-so (Some (convert.NoContext line)) w.cause.0 f left told;
            cause = refused-so (convert.NoContext line) w.cause.0;
          }
          forms-refused (convert.Unfit line) w = record {
            untouched = h.untouched;
            source = h.source;
            read = h.read;
            taken = h.taken;
            out = ap view w.cause.1;
            answers = λ f left told. comes-so (Some (convert.Unfit line)) w.cause.0 f left told;
            cause = refused-so (convert.Unfit line) w.cause.0;
          }
          forms-refused convert.Write w = record {
            untouched = h.untouched;
            source = h.source;
            read = tt;
            taken = h.taken;
            sink = w.passes;
            early = λ writes. absurd (false≢true writes);
            answers = λ f left told. inr (bytes, comes-so None w.cause.0 f left told, w.cause.2);
            cause = w.cause.1;
          }

    -- over what was opened
    pub forms-over : {O : Type 0} (view : O → SinkView) (same : O → O → Type 0) (x y : O) (o : Option SetView) (r : Result (Unit {0}) ConvertFault) → Opens IsSet j.input j.select new t u a b (Ok o) → IfSome o (IsReadOfSome new.skip_binary)
        → IfSome o (λ v. Converts view same x y r (form_refusal form (left_patches (filter_with j new) (plain_patches v))) (converted form (filter_with j new) v)) → (o ≡ None → (r ≡ Ok tt) × (y ≡ x)) → Forms form j (convert_outcome form j) t u a b (view x) (view y) (of_converted r)
    forms-over view same x y None r h some converts none = let is = none refl in rw (is.0, is.1) (forms-nothing (view x) h)
    forms-over view same x y (Some v) (Ok done) h some converts none = forms-written v h view same x y converts
    forms-over view same x y (Some v) (Err e) h some converts none = forms-refused v h view same x y some e converts
