-- From a text that was read, and what was written of its set, to what `reversediff` promises.
use Rattle.std.proofs.Common.{◌≡◌, ◌⊎◌, inl, inr, ℕ, false, List, [], Option, None, Some, Result, Ok, Err, refl, sym, ap, ◌∙◌, subst}
use Rattle.std.specs.Prelude.{option_map}
use Rattle.std.specs.Option.{option_or}
use Rattle.std.proofs.lemmas.Bool.{false≢true}
use Rattle.outside.specs.Files.{Files}
use Rattle.outside.specs.TreeView.{TreeView}
use Rattle.outside.specs.Calls.{IsUntouched}
use Rattle.outside.specs.SourceView.{SourceView, SourcePasses}
use Rattle.outside.specs.SinkView.{SinkView, sink_passes_none}
use Rattle.read_file_patch.specs.PlainPatch.{PlainPatch, first_opening}
use Rattle.flip_patch.specs.declared.fault.FlipFault.{FlipFault}
use Rattle.flip_patch.specs.declared.fault.FlipFault.TheVariants as flip
use Rattle.flip_patch.specs.Flipped.{flipped}
use Rattle.flip_patch.specs.Refusals.{Answers, is_script, is_unfit, refused}
use Rattle.patch_options.specs.declared.options.Input.{Input}
use Rattle.cli_run_answers.specs.Input.{IsStandard, TakesAtMost}
use Rattle.patch_set.specs.declared.fault.SetFault.{SetFault}
use Rattle.patch_set.specs.declared.fault.SetFault.TheVariants as set
use Rattle.patch_set.specs.Refusals.{refusal}
use Rattle.patch_set.specs.SetView.{SetView, IsRead, plain_patches}
use Rattle.filter_whole_text.specs.Faults.{of_flip}
use Rattle.filter_whole_text.specs.Texts.{defaults}
use Rattle.filter_whole_text.specs.Outcomes.{IsOutcomeOf, no_selection}
use Rattle.filter_whole_text.specs.Sifting.{IsTold, Sifts, is_refusal}
use Rattle.filter_whole_text.specs.Flips.{HasFlipCause, IsTextRead, IsUnread, TurnAnswers, flip_outcome, flipped_from, flipped_in, flipped_unless, text_flipped, turned_unless}
use Rattle.filter_whole_text.specs.declared.fault.FilterFault.{FilterFault}
use Rattle.filter_whole_text.specs.declared.fault.FilterFault.TheVariants as faults
use Rattle.filter_whole_text.proofs.ByText.{patches-by, flipped-by}
use Rattle.filter_whole_text.proofs.SplitRun.{set-refused}
use Rattle.filter_whole_text.proofs.Taking.{text-is, text-refused, text-cause}
use Rattle.filter_whole_text.proofs.Unwritten.{answers-none}

-- ---- what comes of a text is what comes of its set
pub by-set : (text : List ℕ) (v : SetView) → refusal (defaults false) text ≡ None → IsRead (defaults false) text v → (r : Option FlipFault) → refused (plain_patches v) ≡ r → text_flipped text ≡ turned_unless r (flipped v)
by-set text v free read r is =
    ap (λ f. flipped_unless f text) free
    ∙ ap (λ f. turned_unless f (flipped_in text)) (ap refused (patches-by false text v read) ∙ is)
    ∙ ap (turned_unless r) (sym (flipped-by text v read))

-- ---- answers by another name

-- a refusal is never the sink's
script-or-unfit : (a b : Option ℕ) → option_or (option_map flip.EdReverse a) (option_map flip.Unfit b) ≡ Some flip.Write → ⊥
script-or-unfit (Some line) b is = absurd (cc)
script-or-unfit None (Some line) is = absurd (cc)
script-or-unfit None None is = absurd (cc)

never-write : (ps : List PlainPatch) → refused ps ≡ Some flip.Write → ⊥
never-write ps is = script-or-unfit (first_opening (λ p. is_script p.change) ps) (first_opening is_unfit ps) is

abbrev ended : FlipFault → Result (Unit {0}) FlipFault
ended e = Err e

abbrev named : FlipFault → Result (Unit {0}) FilterFault
named e = Err (of_flip e)

turned-same : (e fault : FlipFault) → ended e ≡ ended fault → named e ≡ named fault
turned-same e fault is = let same : e ≡ fault = cc in ap named same

module _ {O : Type 0} (view : O → SinkView) (same : O → O → Type 0) (x y : O) (bytes : List ℕ) where
  pub turned-ok : (r : Option FlipFault) → Answers {R = Unit {0}} view same x y (Ok tt) bytes r → TurnAnswers {R = Unit {0}} view same x y (Ok tt) bytes r
  turned-ok (Some fault) h = let never = h.0 in absurd (cc)
  turned-ok None h = (record { call = record { passes = h.0.call.passes; cause = λ none. absurd (cc) }; rest = h.0.rest; received = h.0.received; failed = tt }, tt)

  pub turned-err : (e : FlipFault) (r : Option FlipFault) → Answers {R = Unit {0}} view same x y (Err e) bytes r → TurnAnswers {R = Unit {0}} view same x y (Err (of_flip e)) bytes r
  turned-err e (Some fault) h = (turned-same e fault h.0, h.1)
  turned-err e None h = (record { call = record { passes = h.0.call.passes; cause = λ err. h.0.call.cause refl }; rest = h.0.rest; received = tt; failed = h.0.failed }, ap of_flip h.1)

-- ---- a text that makes no set

why-so : (e : SetFault) (text : List ℕ) → (e ≡ set.Memory) ⊎ (refusal (defaults false) text ≡ Some e) → HasFlipCause (faults.Set e)
why-so (set.Malformed line kind) text (inl never) = absurd (cc)
why-so (set.Malformed line kind) text (inr is) = (text, ap (λ r. flipped_unless r text) is)
why-so set.Garbage text (inl never) = absurd (cc)
why-so set.Garbage text (inr is) = (text, ap (λ r. flipped_unless r text) is)
why-so set.TooLong text (inl never) = absurd (cc)
why-so set.TooLong text (inr is) = (text, ap (λ r. flipped_unless r text) is)
why-so (set.OutMany count) text (inl never) = absurd (cc)
why-so (set.OutMany count) text (inr is) = (text, ap (λ r. flipped_unless r text) is)
why-so (set.EdReverse line) text (inl never) = absurd (cc)
why-so (set.EdReverse line) text (inr is) = (text, ap (λ r. flipped_unless r text) is)
why-so (set.Reserved line) text (inl never) = absurd (cc)
why-so (set.Reserved line) text (inr is) = (text, ap (λ r. flipped_unless r text) is)
why-so set.Memory text is = tt

module _ (i : Input) (t u : TreeView) (a b : SourceView) (same : IsUntouched t u) (source : SourcePasses a b) (taken : TakesAtMost 268435457 a b) where
  pub flips-unread : (e : FilterFault) → IsUnread e i t u a b → (c : SinkView) → Sifts i no_selection HasFlipCause ⊥ (IsOutcomeOf (flip_outcome i)) t u a b c c (Err e)
  flips-unread (faults.Input e) h c = record {
    untouched = same;
    source = source;
    read = tt;
    taken = taken;
    sink = sink_passes_none c;
    early = λ is. refl;
    answers = λ f left told. answers-none (is_refusal (faults.Input e)) (faults.Input e) (IsOutcomeOf (flip_outcome i) f left) c (λ refuses. sym (ap flipped_from (text-refused e i no_selection t u a b h refuses f left told)));
    cause = text-cause e i no_selection t u a b h;
  }
  flips-unread (faults.Set e) h c = record {
    untouched = same;
    source = source;
    read = tt;
    taken = taken;
    sink = sink_passes_none c;
    early = λ is. refl;
    answers = λ f left told. answers-none (is_refusal (faults.Set e)) (faults.Set e) (IsOutcomeOf (flip_outcome i) f left) c
        (λ refuses. sym (ap flipped_from (text-is i no_selection t a (Ok h.text) h.given f left told) ∙ ap (λ r. flipped_unless r h.text) (set-refused e (refusal (defaults false) h.text) h.why refuses)));
    cause = why-so e h.text h.why;
  }
  flips-unread (faults.Unfit line) h c = absurd h
  flips-unread faults.Pattern h c = absurd h
  flips-unread faults.Tree h c = absurd h
  flips-unread faults.Write h c = absurd h
  flips-unread faults.Memory h c = absurd h

  -- ---- a set that is turned round
  module _ (v : SetView) (h : IsTextRead i t a v) where
    by-text : (r : Option FlipFault) → refused (plain_patches v) ≡ r → text_flipped h.text ≡ turned_unless r (flipped v)
    by-text r is = by-set h.text v h.free h.read r is

    comes : (r : Option FlipFault) → refused (plain_patches v) ≡ r → (f : Files) (left : List ℕ) → IsTold i no_selection t a f left → turned_unless r (flipped v) ≡ flip_outcome i f left
    comes r is f left told = sym (ap flipped_from (text-is i no_selection t a (Ok h.text) h.given f left told) ∙ by-text r is)

    refuses-so : (e : FlipFault) → refused (plain_patches v) ≡ Some e → (c : SinkView) → Sifts i no_selection HasFlipCause ⊥ (IsOutcomeOf (flip_outcome i)) t u a b c c (Err (of_flip e))
    refuses-so (flip.EdReverse line) is c = record {
      untouched = same;
      source = source;
      read = tt;
      taken = taken;
      sink = sink_passes_none c;
      early = λ early. refl;
      answers = λ f left told. (comes (Some (flip.EdReverse line)) is f left told, refl);
      cause = (h.text, by-text (Some (flip.EdReverse line)) is);
    }
    refuses-so (flip.Unfit line) is c = record {
      untouched = same;
      source = source;
      read = tt;
      taken = taken;
      sink = sink_passes_none c;
      early = λ early. refl;
      answers = λ f left told. (comes (Some (flip.Unfit line)) is f left told, refl);
      cause = (h.text, by-text (Some (flip.Unfit line)) is);
    }
    refuses-so flip.Write is c = absurd (never-write (plain_patches v) is)

    module _ {O : Type 0} (view : O → SinkView) (rest : O → O → Type 0) (x y : O) (end : IsStandard i → (left : List ℕ) → a.told ≡ Some left → b.told ≡ Some []) where
      written : (r : Result (Unit {0}) FilterFault) → refused (plain_patches v) ≡ None → TurnAnswers view rest x y r (flipped v) None → Sifts i no_selection HasFlipCause ⊥ (IsOutcomeOf (flip_outcome i)) t u a b (view x) (view y) r
      written (Ok done) is puts = record {
        untouched = same;
        source = source;
        read = end;
        taken = taken;
        sink = puts.0.call.passes;
        early = tt;
        answers = λ f left told. (flipped v, comes None is f left told, puts.0.received);
        cause = tt;
      }
      written (Err e) is puts = subst (λ (f : FilterFault). Sifts i no_selection HasFlipCause ⊥ (IsOutcomeOf (flip_outcome i)) t u a b (view x) (view y) (Err f)) (sym puts.1) (record {
        untouched = same;
        source = source;
        read = tt;
        taken = taken;
        sink = puts.0.call.passes;
        early = λ early. absurd (false≢true early);
        answers = λ f left told. inr (flipped v, comes None is f left told, puts.0.failed);
        cause = puts.0.call.cause refl;
      })

      turned : (r : Result (Unit {0}) FilterFault) (o : Option FlipFault) → refused (plain_patches v) ≡ o → TurnAnswers view rest x y r (flipped v) o → Sifts i no_selection HasFlipCause ⊥ (IsOutcomeOf (flip_outcome i)) t u a b (view x) (view y) r
      turned r None is puts = written r is puts
      turned r (Some e) is early = rw (early.0, early.1) (refuses-so e is (view x))

      pub flips-turned : (r : Result (Unit {0}) FilterFault) → TurnAnswers view rest x y r (flipped v) (refused (plain_patches v)) → Sifts i no_selection HasFlipCause ⊥ (IsOutcomeOf (flip_outcome i)) t u a b (view x) (view y) r
      flips-turned r answer = turned r (refused (plain_patches v)) refl answer
