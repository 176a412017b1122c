-- A text that is written part by part: what was written, and what is left of it.
use Rattle.std.proofs.Common.{◌≡◌, ℕ, List, [], ◌∷◌, ◌++◌, Ok, Err, refl, sym, ap, subst, ◌∙◌, append_assoc}
use Rattle.std.specs.List.{flat_map}
use Rattle.std.proofs.lemmas.List.{append-nil}
use Rattle.std.proofs.lemmas.List.Concat.{flat_map-cons}
use Rattle.outside.specs.SinkView.{SinkView}
use Rattle.outside.specs.Puts.{Puts}
use Rattle.outside.proofs.SinkSteps.{GoesOn, HasPut, has-more, has-none, has-put, puts-done, puts-more, puts-stop}

pub record Written {O : Type 0} (view : O → SinkView) (same : O → O → Type 0) (old new : O) (all left : List ℕ) : Type 0 where
  pub done : List ℕ
  pub put : HasPut view same old new done
  pub whole : done ++ left ≡ all

pub written-none : {O : Type 0} {view : O → SinkView} {same : O → O → Type 0} → ((x : O) → same x x) → (old : O) (all : List ℕ) → Written view same old old all all
written-none stays old all = record { done = []; put = has-none stays old; whole = refl }

module _ {O : Type 0} {view : O → SinkView} {same : O → O → Type 0} (on : GoesOn same) {old mid new : O} {all left : List ℕ} (before : Written view same old mid all left) (own more : List ℕ) (cut : left ≡ own ++ more) where
  pub written-more : {R E : Type 0} (r : R) → Puts {E = E} view same mid new (Ok r) own → Written view same old new all more
  written-more r put = record {
    done = before.done ++ own;
    put = has-more on before.put (has-put r put);
    whole = append_assoc before.done own more ∙ ap (λ x. before.done ++ x) (sym cut) ∙ before.whole;
  }

  pub written-stop : {R S E F : Type 0} (e : E) (f : F) → Puts {R = R} view same mid new (Err e) own → Puts {R = S} view same old new (Err f) all
  written-stop {S = S} e f put =
      let whole : (before.done ++ own) ++ more ≡ all = append_assoc before.done own more ∙ ap (λ x. before.done ++ x) (sym cut) ∙ before.whole in
      subst (Puts {R = S} view same old new (Err f)) whole (puts-stop e f more (puts-more on before.put put))

pub written-all : {O R E : Type 0} {view : O → SinkView} {same : O → O → Type 0} {old new : O} {all left : List ℕ} (r : R) → Written view same old new all left → left ≡ [] → Puts {E = E} view same old new (Ok r) all
written-all {view = view} {same = same} r w none =
    puts-done r (subst (HasPut view same _ _) (sym (append-nil w.done) ∙ ap (λ x. w.done ++ x) (sym none) ∙ w.whole) w.put)

-- the text of one thing alone
pub text-of-one : {A : Type 0} (f : A → List ℕ) (x : A) → flat_map f (x ∷ []) ≡ f x
text-of-one f x = flat_map-cons f x [] ∙ append-nil (f x)
