-- From what was read, and what was written of it, to what a filter promises.
use Rattle.std.proofs.Common.{◌≡◌, ◌≢◌, inl, inr, ℕ, Bool, false, List, [], ◌∷◌, Option, None, Some, Result, Ok, Err, IfErr, OnOk, OnErr, refl, sym, ◌∙◌}
use Rattle.std.specs.Prelude.{IfSome}
use Rattle.std.proofs.lemmas.Bool.{false≢true}
use Rattle.outside.specs.Files.{Files}
use Rattle.outside.specs.TreeView.{TreeView}
use Rattle.outside.specs.FinderView.{FinderView}
use Rattle.outside.specs.SourceView.{SourceView}
use Rattle.outside.specs.declared.Failed.{Failed}
use Rattle.outside.specs.SinkView.{SinkView, SinkPasses, sink_passes_none, Receives, ReceivesPart, Writes}
use Rattle.outside.proofs.Writing.{received_none}
use Rattle.patch_options.specs.declared.options.Input.{Input}
use Rattle.cli_tool_words.specs.PlainJobs.{PlainSelect, PlainGrepJob}
use Rattle.cli_run_answers.specs.declared.fault.InputFault.{InputFault}
use Rattle.patch_set.specs.declared.fault.SetFault.{SetFault}
use Rattle.patch_set.specs.declared.fault.SetFault.TheVariants.{Malformed, Garbage, TooLong, OutMany, EdReverse, Reserved, Memory}
use Rattle.patch_set.specs.SetView.{SetView}
use Rattle.patch_filters.specs.declared.fault.GrepFault.{GrepFault}
use Rattle.patch_filters.specs.declared.fault.GrepFault.TheVariants as grep
use Rattle.patch_filters.specs.Grepped.{HasGrepCause, grepped}
use Rattle.cli_filter.specs.Faults.{of_grep, of_search, of_sink}
use Rattle.cli_filter.specs.Styling.{PutsText}
use Rattle.filter_whole_text.specs.Outcomes.{Outcome, given}
use Rattle.cli_filter.specs.Outcomes.{HasPatches, IsGrepped, grep_with}
use Rattle.filter_whole_text.specs.Sifting.{HasCause, HasTextCause, IsTold, Sifts, is_early, is_refusal}
use Rattle.filter_whole_text.specs.Opened.{IsGarbage, IsReadOf, IsRefused, IsSet, HasOpeningCause, Opens}
use Rattle.filter_whole_text.proofs.Unwritten.{answers-none}
use Rattle.cli_filter.proofs.Coming.{Comes, ComesBy, grepped-is, some-there}
use Rattle.filter_whole_text.specs.declared.fault.FilterFault.{FilterFault}
use Rattle.filter_whole_text.specs.declared.fault.FilterFault.TheVariants as faults

-- ---- what was read decides what comes
module _ {V : Type 0} (Is : Bool → List ℕ → V → Type 0) (written : PlainSelect → V → List ℕ) (x : Result (List ℕ × PlainSelect) InputFault) where
  comes-read : (s : PlainSelect) (v : V) → IsReadOf Is v s x → Comes Is written x (Ok (written s v))
  comes-read s v h = rw (h.is, h.free) (v, h.read, refl)

  comes-none : (s : PlainSelect) → IsGarbage s x → Comes Is written x (Ok [])
  comes-none s h = rw (h.is, h.garbage) refl

comes-by : {V : Type 0} (Is : Bool → List ℕ → V → Type 0) (skip : Bool) (e : SetFault) (bytes : V → List ℕ) (text : List ℕ) → e ≢ Garbage → ComesBy Is skip (Some e) bytes text (Err (faults.Set e))
comes-by Is skip (Malformed line kind) bytes text ne = refl
comes-by Is skip Garbage bytes text ne = absurd (ne refl)
comes-by Is skip TooLong bytes text ne = refl
comes-by Is skip (OutMany count) bytes text ne = refl
comes-by Is skip (EdReverse line) bytes text ne = refl
comes-by Is skip (Reserved line) bytes text ne = refl
comes-by Is skip Memory bytes text ne = refl

comes-refused : {V : Type 0} (Is : Bool → List ℕ → V → Type 0) (written : PlainSelect → V → List ℕ) (e : FilterFault) (x : Result (List ℕ × PlainSelect) InputFault) → IsRefused e x → Comes Is written x (Err e)
comes-refused Is written (faults.Input e) x is = rw is refl
comes-refused Is written (faults.Set e) x is = rw (is.is, is.refused) (comes-by Is is.select.skip_binary e (written is.select) is.text is.some)
comes-refused Is written (faults.Unfit line) x is = absurd is
comes-refused Is written faults.Pattern x is = absurd is
comes-refused Is written faults.Tree x is = absurd is
comes-refused Is written faults.Write x is = absurd is
comes-refused Is written faults.Memory x is = absurd is

pub patches-there : (x : Result (List ℕ × PlainSelect) InputFault) (s : PlainSelect) (v : SetView) → v.patches ≢ [] → IsReadOf IsSet v s x → HasPatches x
patches-there x s v some h = rw (h.is) (h.free, some-there s.skip_binary h.text v h.read some)

-- ---- answers that write nothing
pub opening-cause : (e : FilterFault) (i : Input) (s : PlainSelect) (Q : Type 0) (t u : TreeView) (a b : SourceView) (c : SinkView) → HasOpeningCause e i s t u a b → HasCause e i s (HasTextCause s.skip_binary) Q t u a b c c
opening-cause (faults.Input e) i s Q t u a b c h = h
opening-cause (faults.Set e) i s Q t u a b c h = h
opening-cause (faults.Unfit line) i s Q t u a b c h = absurd h
opening-cause faults.Pattern i s Q t u a b c h = absurd h
opening-cause faults.Tree i s Q t u a b c h = h
opening-cause faults.Write i s Q t u a b c h = absurd h
opening-cause faults.Memory i s Q t u a b c h = tt

-- ---- a filter over what is read, of which these are the bytes, where the definition allows what comes so
module _ {V : Type 0} (Is : Bool → List ℕ → V → Type 0) (i : Input) (old new : PlainSelect) (Q : Type 0) (written : PlainSelect → V → List ℕ) (P : Files → List ℕ → Outcome → Type 0)
    (allows : (f : Files) (left : List ℕ) (o : Outcome) → Comes Is written (given i old f left) o → P f left o) (t u : TreeView) (a b : SourceView) where
  pub sifts-unopened : (e : FilterFault) (c : SinkView) → Opens Is i old new t u a b (Err e) → Sifts i old (HasTextCause old.skip_binary) Q P t u a b c c (Err e)
  sifts-unopened e c h = record {
    untouched = h.untouched;
    source = h.source;
    read = tt;
    taken = h.taken;
    sink = sink_passes_none c;
    early = λ is. refl;
    answers = λ f left told. answers-none (is_refusal e) e (P f left) c (λ refuses. allows f left (Err e) (comes-refused Is written e (given i old f left) (h.refused refuses f left told)));
    cause = opening-cause e i old Q t u a b c h.cause;
  }

  pub sifts-nothing : (c : SinkView) → Opens Is i old new t u a b (Ok None) → Sifts i old (HasTextCause old.skip_binary) Q P t u a b c c (Ok tt)
  sifts-nothing c h = record {
    untouched = h.untouched;
    source = h.source;
    read = h.read;
    taken = h.taken;
    sink = sink_passes_none c;
    early = tt;
    answers = λ f left told. ([], allows f left (Ok []) (comes-none Is written (given i old f left) new (h.opened f left told)), received_none c);
    cause = tt;
  }

  module _ (v : V) (h : Opens Is i old new t u a b (Ok (Some v))) (c d : SinkView) where
    pub sifts-done : SinkPasses c d → Receives c d (written new v) → Sifts i old (HasTextCause old.skip_binary) Q P t u a b c d (Ok tt)
    sifts-done passes received = record {
      untouched = h.untouched;
      source = h.source;
      read = h.read;
      taken = h.taken;
      sink = passes;
      early = tt;
      answers = λ f left told. (written new v, allows f left (Ok (written new v)) (comes-read Is written (given i old f left) new v (h.opened f left told)), received);
      cause = tt;
    }

    pub sifts-written : {E : Type 0} → Writes {R = Unit {0}} {E = E} c d (Ok tt) (written new v) → Sifts i old (HasTextCause old.skip_binary) Q P t u a b c d (Ok tt)
    sifts-written w = sifts-done w.call.passes w.received

    -- a fault of a device, or want of memory
    pub sifts-broken : (e : FilterFault) → is_refusal e ≡ false → is_early e ≡ false → SinkPasses c d → ReceivesPart c d (written new v) → HasCause e i old (HasTextCause old.skip_binary) Q t u a b c d → Sifts i old (HasTextCause old.skip_binary) Q P t u a b c d (Err e)
    sifts-broken e is late passes part cause = record {
      untouched = h.untouched;
      source = h.source;
      read = tt;
      taken = h.taken;
      sink = passes;
      early = λ writes. absurd (false≢true (sym late ∙ writes));
      answers = λ f left told. rw is (inr (written new v, allows f left (Ok (written new v)) (comes-read Is written (given i old f left) new v (h.opened f left told)), part));
      cause = cause;
    }

    pub sifts-cut : {R E : Type 0} (e : E) → Writes {R = R} c d (Err e) (written new v) → Sifts i old (HasTextCause old.skip_binary) Q P t u a b c d (Err faults.Write)
    sifts-cut e w = sifts-broken faults.Write refl refl w.call.passes w.failed (w.call.cause refl)

  -- over what was opened
  pub sifts-over : {O : Type 0} (view : O → SinkView) (x y : O) (o : Option V) (r : Result (Unit {0}) Failed) → Opens Is i old new t u a b (Ok o) → IfSome o (λ v. Writes (view x) (view y) r (written new v)) → (o ≡ None → (r ≡ Ok tt) × (y ≡ x))
      → Sifts i old (HasTextCause old.skip_binary) Q P t u a b (view x) (view y) (of_sink r)
  sifts-over view x y None r h writes none = let is = none refl in rw (is.0, is.1) (sifts-nothing (view x) h)
  sifts-over view x y (Some v) (Ok done) h writes none = sifts-written v h (view x) (view y) writes
  sifts-over view x y (Some v) (Err e) h writes none = sifts-cut v h (view x) (view y) e writes

  -- the same of a text that was made in memory
  pub sifts-text : {O : Type 0} (view : O → SinkView) (same_rest : O → O → Type 0) (x y : O) (o : Option V) (r : Result (Unit {0}) FilterFault) → Opens Is i old new t u a b (Ok o)
      → IfSome o (λ v. PutsText view same_rest x y r (written new v)) → (o ≡ None → (r ≡ Ok tt) × (y ≡ x)) → Sifts i old (HasTextCause old.skip_binary) Q P t u a b (view x) (view y) r
  sifts-text view same_rest x y None r h puts none = let is = none refl in rw (is.0, is.1) (sifts-nothing (view x) h)
  sifts-text view same_rest x y (Some v) (Ok done) h puts none = sifts-done v h (view x) (view y) puts.passes puts.received
  sifts-text view same_rest x y (Some v) (Err faults.Write) h puts none = sifts-broken v h (view x) (view y) faults.Write refl refl puts.passes puts.failed puts.cause
  sifts-text view same_rest x y (Some v) (Err faults.Memory) h puts none = sifts-broken v h (view x) (view y) faults.Memory refl refl puts.passes puts.failed tt
  sifts-text view same_rest x y (Some v) (Err (faults.Input e)) h puts none = absurd puts.cause
  sifts-text view same_rest x y (Some v) (Err (faults.Set e)) h puts none = absurd puts.cause
  sifts-text view same_rest x y (Some v) (Err (faults.Unfit line)) h puts none = absurd puts.cause
  sifts-text view same_rest x y (Some v) (Err faults.Pattern) h puts none = absurd puts.cause
  sifts-text view same_rest x y (Some v) (Err faults.Tree) h puts none = absurd puts.cause

-- ---- a search, whose pattern may be refused
abbrev ended : GrepFault → Result (Unit {0}) GrepFault
ended e = Err e

module _ (new : PlainSelect) (finder : FinderView) (j : PlainGrepJob) (t u : TreeView) (a b : SourceView) where
  abbrev bytes : PlainSelect → SetView → List ℕ
  bytes s v = grepped (finder.hit j.pattern) (grep_with j s) v

  abbrev Searches : SinkView → SinkView → Result (Unit {0}) FilterFault → Type 0
  Searches c d result = Sifts j.input j.select (HasTextCause j.select.skip_binary) (finder.takes j.pattern ≡ false) (IsGrepped finder.takes finder.hit j) t u a b c d result

  pub searched-unopened : (e : FilterFault) (c : SinkView) → Opens IsSet j.input j.select new t u a b (Err e) → Searches c c (Err e)
  searched-unopened = sifts-unopened IsSet j.input j.select new (finder.takes j.pattern ≡ false) bytes (IsGrepped finder.takes finder.hit j) (λ f left o is. inl (grepped-is finder.hit j f left o is)) t u a b

  pub searched-nothing : (c : SinkView) → Opens IsSet j.input j.select new t u a b (Ok None) → Searches c c (Ok tt)
  searched-nothing = sifts-nothing IsSet j.input j.select new (finder.takes j.pattern ≡ false) bytes (IsGrepped finder.takes finder.hit j) (λ f left o is. inl (grepped-is finder.hit j f left o is)) t u a b

  module _ (v : SetView) (h : Opens IsSet j.input j.select new t u a b (Ok (Some v))) where
    pub searched-done : (c d : SinkView) → SinkPasses c d → Receives c d (bytes new v) → Searches c d (Ok tt)
    searched-done = sifts-done IsSet j.input j.select new (finder.takes j.pattern ≡ false) bytes (IsGrepped finder.takes finder.hit j) (λ f left o is. inl (grepped-is finder.hit j f left o is)) t u a b v h

    searched-broken : (c d : SinkView) (e : FilterFault) → is_refusal e ≡ false → is_early e ≡ false → SinkPasses c d → ReceivesPart c d (bytes new v) → HasCause e j.input j.select (HasTextCause j.select.skip_binary) (finder.takes j.pattern ≡ false) t u a b c d → Searches c d (Err e)
    searched-broken = sifts-broken IsSet j.input j.select new (finder.takes j.pattern ≡ false) bytes (IsGrepped finder.takes finder.hit j) (λ f left o is. inl (grepped-is finder.hit j f left o is)) t u a b v h

    searched-untaken : v.patches ≢ [] → finder.takes j.pattern ≡ false → (c : SinkView) → Searches c c (Err faults.Pattern)
    searched-untaken some untaken c = record {
      untouched = h.untouched;
      source = h.source;
      read = tt;
      taken = h.taken;
      sink = sink_passes_none c;
      early = λ is. refl;
      answers = λ f left told. (inr (untaken, refl, patches-there (given j.input j.select f left) new v some (h.opened f left told)), refl);
      cause = untaken;
    }

    pub searched-faulted : {O F : Type 0} (view : O → SinkView) (x y : O) (f g : F) (e : GrepFault) → SinkPasses (view x) (view y) → ReceivesPart (view x) (view y) (bytes new v) → HasGrepCause e view finder j.pattern x y
        → (v.patches ≡ [] → (ended e ≡ Ok tt) × (g ≡ f) × (y ≡ x)) → Searches (view x) (view y) (Err (of_grep e))
    searched-faulted view x y f g grep.Pattern passes part cause unasked = rw cause.1 (searched-untaken (λ none. let never = (unasked none).0 in absurd (cc)) cause.0 (view x))
    searched-faulted view x y f g grep.Write passes part cause unasked = searched-broken (view x) (view y) faults.Write refl refl passes part cause
    searched-faulted view x y f g grep.Memory passes part cause unasked = searched-broken (view x) (view y) faults.Memory refl refl passes part tt

    -- a set with file patches is one of a text that has them
    pub searched-unasked : {F : Type 0} (f g : F) → (v.patches ≡ [] → g ≡ f) → (files : Files) (left : List ℕ) → IsTold j.input j.select t a files left → (HasPatches (given j.input j.select files left) → ⊥) → g ≡ f
    searched-unasked f g same files left told none = elim v.patches as (λ ps. v.patches ≡ ps → g ≡ f) [
      | [] ↦ λ empty. same empty
      | p ∷ ps ↦ λ some. absurd (none (patches-there (given j.input j.select files left) new v (λ empty. let never = sym some ∙ empty in absurd (cc)) (h.opened files left told)))
    ] refl

  -- over what was opened
  module _ {O F : Type 0} (view : O → SinkView) (x y : O) (f g : F) (o : Option SetView) (r : Result (Unit {0}) GrepFault) (h : Opens IsSet j.input j.select new t u a b (Ok o))
      (unasked : IfSome o (λ v. v.patches ≡ [] → (r ≡ Ok tt) × (g ≡ f) × (y ≡ x))) (none : o ≡ None → (r ≡ Ok tt) × (g ≡ f) × (y ≡ x)) where
    pub searched-over : SinkPasses (view x) (view y) → IfSome o (λ v. OnOk r (Receives (view x) (view y) (bytes new v))) → IfSome o (λ v. OnErr r (ReceivesPart (view x) (view y) (bytes new v)))
        → IfErr r (λ e. HasGrepCause e view finder j.pattern x y) → Searches (view x) (view y) (of_search r)
    searched-over passes received failed cause = over o r h unasked none received failed cause
      where
        over : (p : Option SetView) (s : Result (Unit {0}) GrepFault) → Opens IsSet j.input j.select new t u a b (Ok p) → IfSome p (λ v. v.patches ≡ [] → (s ≡ Ok tt) × (g ≡ f) × (y ≡ x)) → (p ≡ None → (s ≡ Ok tt) × (g ≡ f) × (y ≡ x))
            → IfSome p (λ v. OnOk s (Receives (view x) (view y) (bytes new v))) → IfSome p (λ v. OnErr s (ReceivesPart (view x) (view y) (bytes new v))) → IfErr s (λ e. HasGrepCause e view finder j.pattern x y)
            → Searches (view x) (view y) (of_search s)
        over None s k empty nothing got part why = let is = nothing refl in rw (is.0, is.2) (searched-nothing (view x) k)
        over (Some v) (Ok done) k empty nothing got part why = searched-done v k (view x) (view y) passes got
        over (Some v) (Err e) k empty nothing got part why = searched-faulted v k view x y f g e passes part why empty

    pub searched-untold : (files : Files) (left : List ℕ) → IsTold j.input j.select t a files left → (HasPatches (given j.input j.select files left) → ⊥) → g ≡ f
    searched-untold files left told without = untold o h unasked none
      where
        untold : (p : Option SetView) → Opens IsSet j.input j.select new t u a b (Ok p) → IfSome p (λ v. v.patches ≡ [] → (r ≡ Ok tt) × (g ≡ f) × (y ≡ x)) → (p ≡ None → (r ≡ Ok tt) × (g ≡ f) × (y ≡ x)) → g ≡ f
        untold None k empty nothing = (nothing refl).1
        untold (Some v) k empty nothing = searched-unasked v k f g (λ is. (empty is).1) files left told without
