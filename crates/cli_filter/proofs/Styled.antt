-- A filter whose text is restyled in memory before it is written.
use Rattle.std.proofs.Common.{◌≡◌, inl, inr, ℕ, ◌||◌, Bool, true, false, List, [], Some, Result, Ok, Err, IfErr, OnErr, OnOk, cond, length, nat_lt, refl, sym, subst, ap, ◌∙◌}
use Rattle.std.proofs.lemmas.Bool.{false≢true}
use Rattle.std.proofs.lemmas.List.{append-nil}
use Rattle.std.proofs.lemmas.Option.{same_Some}
use Rattle.hunk_core.specs.declared.Form.{Form}
use Rattle.outside.specs.Files.{Files}
use Rattle.outside.specs.TreeView.{TreeView}
use Rattle.outside.specs.SourceView.{SourceView}
use Rattle.outside.specs.SinkView.{SinkView, SinkPasses, sink_passes_none, Receives, ReceivesPart}
use Rattle.patch_options.specs.declared.options.Input.{Input}
use Rattle.read_patch_text.specs.Digests.{digests_of}
use Rattle.filter_style.specs.Styled.{filter_ways, is_plain, restyled, styled_by}
use Rattle.cli_tool_words.specs.PlainJobs.{PlainFilterJob, PlainSelect, PlainStyle}
use Rattle.filter_whole_text.specs.Outcomes.{IsOutcomeOf, Outcome}
use Rattle.filter_whole_text.specs.Sifting.{AnswersFault, HasTextCause, IsTold, Sifts, is_refusal}
use Rattle.filter_whole_text.specs.declared.fault.FilterFault.{FilterFault}
use Rattle.filter_whole_text.specs.declared.fault.FilterFault.TheVariants as faults
use Rattle.cli_filter.specs.Converting.{FormOutcome, Forms, IsConverted, styled_form}
use Rattle.cli_filter.specs.Outcomes.{styled}
use Rattle.cli_filter.specs.Styling.{IsPutFault, form_in_memory, in_memory, of_put}
use Rattle.cli_filter.specs.declared.form_fault.FormFault.{FormFault}
use Rattle.cli_filter.specs.declared.form_fault.FormFault.TheVariants.{Filter, NoContext, Unfit}

-- ---- a style that does nothing

plain-same : (s : PlainStyle) (text : List ℕ) → is_plain s ≡ true → text ≡ restyled s text
unfolding restyled
plain-same s text is = sym (ap (λ b. cond (b || nat_lt 268435456 (length text)) text (styled_by s text (digests_of filter_ways text))) is)

pub plain-styled : (s : PlainStyle) → is_plain s ≡ true → (o : Outcome) → o ≡ styled s o
plain-styled s is (Ok text) = ap (λ (t : List ℕ). Ok t) (plain-same s text is)
plain-styled s is (Err fault) = refl

pub plain-formed : (s : PlainStyle) → is_plain s ≡ true → (o : FormOutcome) → o ≡ styled_form s o
plain-formed s is (Ok text) = ap (λ (t : List ℕ). Ok t) (plain-same s text is)
plain-formed s is (Err fault) = refl

-- ---- from a filter that writes to memory to one that writes on

moved : (r : Bool) (e f : FilterFault) (P Q : Outcome → Type 0) (m n c : SinkView) → (r ≡ true → P (Err e) → Q (Err f)) → AnswersFault r e P m n → AnswersFault r f Q c c
moved true e f P Q m n c to h = (to refl h.0, refl)
moved false e f P Q m n c to h = inl refl

-- nothing is a first part of every text
pub part-none : (c : SinkView) (text : List ℕ) → ReceivesPart c c text
part-none c text b told = inr (0, told ∙ ap (λ (l : List ℕ). Some l) (sym (append-nil b)))

-- what memory holds is what was received
held : (m n : SinkView) (text bytes : List ℕ) → m.told ≡ Some [] → n.told ≡ Some text → Receives m n bytes → bytes ≡ text
held m n text bytes empty full received = same_Some bytes text (sym (received [] empty) ∙ full)

module _ (i : Input) (s : PlainSelect) (R : FilterFault → Type 0) (Q : Type 0) (P N : Files → List ℕ → Outcome → Type 0) (t u : TreeView) (a b : SourceView) where
  kept-fault : (e : FilterFault) (m n c : SinkView) → ((f : Files) (left : List ℕ) → P f left (Err e) → N f left (Err e)) → Sifts i s R Q P t u a b m n (Err e) → Sifts i s R Q N t u a b c c (Err (in_memory e))
  kept-fault (faults.Input e) m n c to h = record {
    untouched = h.untouched;
    source = h.source;
    read = tt;
    taken = h.taken;
    sink = sink_passes_none c;
    early = λ is. refl;
    answers = λ f left told. moved (is_refusal (faults.Input e)) (faults.Input e) (faults.Input e) (P f left) (N f left) m n c (λ is. to f left) (h.answers f left told);
    cause = h.cause;
  }
  kept-fault (faults.Set e) m n c to h = record {
    untouched = h.untouched;
    source = h.source;
    read = tt;
    taken = h.taken;
    sink = sink_passes_none c;
    early = λ is. refl;
    answers = λ f left told. moved (is_refusal (faults.Set e)) (faults.Set e) (faults.Set e) (P f left) (N f left) m n c (λ is. to f left) (h.answers f left told);
    cause = h.cause;
  }
  kept-fault (faults.Unfit line) m n c to h = record {
    untouched = h.untouched;
    source = h.source;
    read = tt;
    taken = h.taken;
    sink = sink_passes_none c;
    early = λ is. refl;
    answers = λ f left told. (to f left (h.answers f left told).0, refl);
    cause = h.cause;
  }
  kept-fault faults.Pattern m n c to h = record {
    untouched = h.untouched;
    source = h.source;
    read = tt;
    taken = h.taken;
    sink = sink_passes_none c;
    early = λ is. refl;
    answers = λ f left told. (to f left (h.answers f left told).0, refl);
    cause = h.cause;
  }
  kept-fault faults.Tree m n c to h = record { untouched = h.untouched; source = h.source; read = tt; taken = h.taken; sink = sink_passes_none c; early = λ is. refl; answers = λ f left told. inl refl; cause = h.cause }
  kept-fault faults.Write m n c to h = record { untouched = h.untouched; source = h.source; read = tt; taken = h.taken; sink = sink_passes_none c; early = λ is. refl; answers = λ f left told. inl refl; cause = tt }
  kept-fault faults.Memory m n c to h = record { untouched = h.untouched; source = h.source; read = tt; taken = h.taken; sink = sink_passes_none c; early = λ is. refl; answers = λ f left told. inl refl; cause = tt }

  module _ (text new : List ℕ) (m n c d : SinkView) (to : (f : Files) (left : List ℕ) → P f left (Ok text) → N f left (Ok new)) (empty : m.told ≡ Some []) (full : n.told ≡ Some text)
      (h : Sifts i s R Q P t u a b m n (Ok tt)) (passes : SinkPasses c d) where
    comes-new : (f : Files) (left : List ℕ) → IsTold i s t a f left → N f left (Ok new)
    comes-new f left told =
        let x = h.answers f left told in
        to f left (subst (λ (bytes : List ℕ). P f left (Ok bytes)) (held m n text x.0 empty full x.2) x.1)

    broken-put : (e : FilterFault) → ReceivesPart c d new → IsPutFault e c d → Sifts i s R Q N t u a b c d (Err e)
    broken-put faults.Write part cause = record {
      untouched = h.untouched;
      source = h.source;
      read = tt;
      taken = h.taken;
      sink = passes;
      early = λ is. absurd (false≢true is);
      answers = λ f left told. inr (new, comes-new f left told, part);
      cause = cause;
    }
    broken-put faults.Memory part cause = record {
      untouched = h.untouched;
      source = h.source;
      read = tt;
      taken = h.taken;
      sink = passes;
      early = λ is. absurd (false≢true is);
      answers = λ f left told. inr (new, comes-new f left told, part);
      cause = tt;
    }
    broken-put (faults.Input e) part cause = absurd cause
    broken-put (faults.Set e) part cause = absurd cause
    broken-put (faults.Unfit line) part cause = absurd cause
    broken-put faults.Pattern part cause = absurd cause
    broken-put faults.Tree part cause = absurd cause

    put-on : (r : Result (Unit {0}) FilterFault) → OnOk r (Receives c d new) → OnErr r (ReceivesPart c d new) → IfErr r (λ e. IsPutFault e c d) → Sifts i s R Q N t u a b c d r
    put-on (Ok done) received failed cause = record {
      untouched = h.untouched;
      source = h.source;
      read = h.read;
      taken = h.taken;
      sink = passes;
      early = tt;
      answers = λ f left told. (new, comes-new f left told, received);
      cause = tt;
    }
    put-on (Err e) received failed cause = broken-put e failed cause

-- ---- without a form

module _ (i : Input) (s : PlainSelect) (R : FilterFault → Type 0) (Q : Type 0) (style : PlainStyle) (o : Files → List ℕ → Outcome) (t u : TreeView) (a b : SourceView) where
  abbrev So : (Files → List ℕ → Outcome) → SinkView → SinkView → Result (Unit {0}) FilterFault → Type 0
  So outcome c d r = Sifts i s R Q (IsOutcomeOf outcome) t u a b c d r

  abbrev restyled_outcome : Files → List ℕ → Outcome
  restyled_outcome f left = styled style (o f left)

  pub sifts-plain : is_plain style ≡ true → (c d : SinkView) (r : Result (Unit {0}) FilterFault) → So o c d r → So restyled_outcome c d r
  sifts-plain is c d r h = subst (λ (x : Files → List ℕ → Outcome). So x c d r) (λ k f left. plain-styled style is (o f left) k) h

  pub sifts-fault : (e : FilterFault) (m n c : SinkView) → So o m n (Err e) → So restyled_outcome c c (Err (in_memory e))
  sifts-fault e m n c h = kept-fault i s R Q (IsOutcomeOf o) (IsOutcomeOf restyled_outcome) t u a b e m n c (λ f left is. ap (styled style) is) h

  pub sifts-on : (text : List ℕ) (m n c d : SinkView) (r : Result (Unit {0}) FilterFault) → m.told ≡ Some [] → n.told ≡ Some text → So o m n (Ok tt) → SinkPasses c d
      → OnOk r (Receives c d (restyled style text)) → OnErr r (ReceivesPart c d (restyled style text)) → IfErr r (λ e. IsPutFault e c d) → So restyled_outcome c d r
  sifts-on text m n c d r empty full h passes = put-on i s R Q (IsOutcomeOf o) (IsOutcomeOf restyled_outcome) t u a b text (restyled style text) m n c d (λ f left is. ap (styled style) is) empty full h passes r

-- ---- with a form

module _ (form : Form) (j : PlainFilterJob) (style : PlainStyle) (o : Files → List ℕ → FormOutcome) (t u : TreeView) (a b : SourceView) where
  abbrev restyled_form : Files → List ℕ → FormOutcome
  restyled_form f left = styled_form style (o f left)

  abbrev Cause : FilterFault → Type 0
  Cause = HasTextCause j.select.skip_binary

  pub forms-plain : is_plain style ≡ true → (c d : SinkView) (r : Result (Unit {0}) FormFault) → Forms form j o t u a b c d r → Forms form j restyled_form t u a b c d r
  forms-plain is c d r h = subst (λ (x : Files → List ℕ → FormOutcome). Forms form j x t u a b c d r) (λ k f left. plain-formed style is (o f left) k) h

  pub forms-fault : (e : FormFault) (m n c : SinkView) → Forms form j o t u a b m n (Err e) → Forms form j restyled_form t u a b c c (Err (form_in_memory e))
  forms-fault (Filter e) m n c h = kept-fault j.input j.select Cause ⊥ (IsConverted o) (IsConverted restyled_form) t u a b e m n c (λ f left is. ap (styled_form style) is) h
  forms-fault (NoContext line) m n c h = record { untouched = h.untouched; source = h.source; read = h.read; taken = h.taken; out = refl; answers = λ f left told. ap (styled_form style) (h.answers f left told); cause = h.cause }
  forms-fault (Unfit line) m n c h = record { untouched = h.untouched; source = h.source; read = h.read; taken = h.taken; out = refl; answers = λ f left told. ap (styled_form style) (h.answers f left told); cause = h.cause }

  as-put : (c d : SinkView) (r : Result (Unit {0}) FilterFault) → Sifts j.input j.select Cause ⊥ (IsConverted restyled_form) t u a b c d r → Forms form j restyled_form t u a b c d (of_put r)
  as-put c d (Ok done) h = h
  as-put c d (Err e) h = h

  pub forms-on : (text : List ℕ) (m n c d : SinkView) (r : Result (Unit {0}) FilterFault) → m.told ≡ Some [] → n.told ≡ Some text → Forms form j o t u a b m n (Ok tt) → SinkPasses c d
      → OnOk r (Receives c d (restyled style text)) → OnErr r (ReceivesPart c d (restyled style text)) → IfErr r (λ e. IsPutFault e c d) → Forms form j restyled_form t u a b c d (of_put r)
  forms-on text m n c d r empty full h passes received failed cause =
      as-put c d r (put-on j.input j.select Cause ⊥ (IsConverted o) (IsConverted restyled_form) t u a b text (restyled style text) m n c d (λ f left is. ap (styled_form style) is) empty full h passes r received failed cause)

-- ---- where something is told of hunks, or nothing

module _ (i : Input) (s : PlainSelect) (R : FilterFault → Type 0) (Q : Type 0) (told untold : Files → List ℕ → Outcome) (t u : TreeView) (a b : SourceView) (c d : SinkView) (r : Result (Unit {0}) FilterFault) where
  abbrev either : Bool → Files → List ℕ → Outcome
  either asks f left = cond asks (told f left) (untold f left)

  pub sifts-told : (asks : Bool) → asks ≡ true → Sifts i s R Q (IsOutcomeOf told) t u a b c d r → Sifts i s R Q (IsOutcomeOf (either asks)) t u a b c d r
  sifts-told asks is h = subst (λ x. Sifts i s R Q (IsOutcomeOf (either x)) t u a b c d r) (sym is) h

  pub sifts-untold : (asks : Bool) → asks ≡ false → Sifts i s R Q (IsOutcomeOf untold) t u a b c d r → Sifts i s R Q (IsOutcomeOf (either asks)) t u a b c d r
  sifts-untold asks is h = subst (λ x. Sifts i s R Q (IsOutcomeOf (either x)) t u a b c d r) (sym is) h
