-- A save that is restored from its front on.
use Rattle.std.proofs.Common.{◌≡◌, ◌≢◌, ⊎_elim, inl, inr, ℕ, ◌<◌, List, [], ◌∷◌, ◌++◌, length, Bool, true, false, is_some, IsSome, cond, Option, Some, None, Result, Ok, Err, OnOk, refl, sym, ◌∙◌, ap, subst, append_assoc}
use Rattle.std.specs.Prelude.{IfSome}
use Rattle.std.proofs.lemmas.List.{append-nil}
use Rattle.outside.specs.TreeView.{TreeView, Passes, Rises}
use Rattle.outside.specs.Quiet.{IsQuiet}
use Rattle.outside.proofs.Views.{rises_then}
use Rattle.series_stack.specs.declared.fault.StackFault.{StackFault}
use Rattle.series_stack.specs.declared.fault.StackFault.TheVariants.{Tree}
use Rattle.series_stack.specs.Causes.{HasFailed}
use Rattle.series_stack.specs.Saves.{Entry, name_of, is_saved, entries_of, first_entry, if_saved}
use Rattle.outside.specs.Calls.{Becomes}
use Rattle.series_stack.specs.Restoring.{Restores, restored}
use Rattle.series_stack.proofs.Entries.{shorter}
use Rattle.series_stack.proofs.Saving.{Ahead, ahead, none_left}
use Rattle.series_stack.proofs.Steps.{Halfway, begun, goes_on, stops, whole_save, restores_files}

-- so many entries are restored, and the others are what is left of the text
pub record Going (u v : TreeView) (save rest : List ℕ) : Type 0 where
  pub done : List Entry
  pub left : List Entry
  pub behind : entries_of rest ≡ Some left
  pub all : entries_of save ≡ Some (done ++ left)
  pub half : Halfway u v done

pub some_of : {A : Type 0} (o : Option A) → IsSome o → (x : A) × (o ≡ Some x)
some_of None is = absurd (let no : false ≡ true = is in cc)
some_of (Some x) is = (x, refl)

pub starts : (u : TreeView) (save : List ℕ) → IsSome (entries_of save) → IsQuiet u → Going u u save save
starts u save some quiet =
    let es = some_of (entries_of save) some in
    record { done = []; left = es.0; behind = es.1; all = es.1; half = begun u quiet }

pub at_some : {A : Type 0} (P : A → Type 0) (o : Option A) (x : A) → o ≡ Some x → IfSome o P → P x
at_some P o x is p = let h : IfSome (Some x) P = subst (λ q. IfSome q P) is p in h

pub if_some : {A : Type 0} (P : A → Type 0) (o : Option A) (x : A) → o ≡ Some x → P x → IfSome o P
if_some P o x is p = subst (λ q. IfSome q P) (sym is) (let h : IfSome (Some x) P = p in h)

module _ {u v : TreeView} {save rest : List ℕ} (going : Going u v save rest) (some : rest ≢ []) where
  front : Ahead rest going.left
  front = ahead rest going.left some going.behind

  pub front_saved : IsSome (if_saved (first_entry rest))
  front_saved = ap is_some front.first

  whole : entries_of save ≡ Some ((going.done ++ (front.entry ∷ [])) ++ front.more)
  whole = going.all ∙ ap (λ (l : List Entry). Some (going.done ++ l)) front.all ∙ ap (λ (l : List Entry). Some l) (sym (append_assoc going.done (front.entry ∷ []) front.more))

  pub front_shorter : (new : List ℕ) → IfSome (if_saved (first_entry rest)) (λ y. new ≡ y.1) → length new < length rest
  front_shorter new is =
      let same : new ≡ front.rest = at_some (λ (y : Entry × List ℕ). new ≡ y.1) (if_saved (first_entry rest)) (front.entry, front.rest) front.first is in
      subst (λ (l : List ℕ). length l < length rest) (sym same) (shorter rest (front.entry, front.rest) front.first)

  pub goes : {R : Type 0} (E : Type 0) (w : TreeView) (x : R) (new : List ℕ) → IfSome (if_saved (first_entry rest)) (λ y. new ≡ y.1) → IfSome (if_saved (first_entry rest)) (λ y. Restores {E = E} v w (Ok x) (y.0 ∷ [])) → Going u w save new
  goes E w x new is one =
      let same : new ≡ front.rest = at_some (λ (y : Entry × List ℕ). new ≡ y.1) (if_saved (first_entry rest)) (front.entry, front.rest) front.first is in
      record {
        done = going.done ++ (front.entry ∷ []);
        left = front.more;
        behind = ap entries_of same ∙ front.behind;
        all = whole;
        half = goes_on front.entry going.half x (at_some (λ (y : Entry × List ℕ). Restores {E = E} v w (Ok x) (y.0 ∷ [])) (if_saved (first_entry rest)) (front.entry, front.rest) front.first one);
      }

  pub fails : {S E : Type 0} (R : Type 0) (w : TreeView) (d : E) (s : Result S E) → s ≡ Err d → IfSome (if_saved (first_entry rest)) (λ y. Restores {R = R} v w (Err d) (y.0 ∷ [])) → IfSome (entries_of save) (λ es. Restores u w s es)
  fails R w d s is one =
      if_some (λ es. Restores u w s es) (entries_of save) ((going.done ++ (front.entry ∷ [])) ++ front.more) whole
      (stops front.entry going.half d s is front.more (at_some (λ (y : Entry × List ℕ). Restores {R = R} v w (Err d) (y.0 ∷ [])) (if_saved (first_entry rest)) (front.entry, front.rest) front.first one))

pub ends : {R : Type 0} (E : Type 0) {u v : TreeView} {save rest : List ℕ} (x : R) → Going u v save rest → rest ≡ [] → IfSome (entries_of save) (λ es. Restores {E = E} u v (Ok x) es)
ends E {u = u} {v = v} {save = save} {rest = rest} x going is =
    let none : going.left ≡ [] = none_left going.left (ap entries_of (sym is) ∙ going.behind) in
    let all : entries_of save ≡ Some going.done = going.all ∙ ap (λ (l : List Entry). Some (going.done ++ l)) none ∙ ap (λ (l : List Entry). Some l) (append-nil going.done) in
    if_some (λ es. Restores {E = E} u v (Ok x) es) (entries_of save) going.done all (whole_save x going.half)

pub failed_then : (u v w : TreeView) (e : StackFault) → Passes u v → HasFailed e v w → HasFailed e u w
failed_then u v w e passes failed = ⊎_elim (λ m. inl m) (λ (t : (e ≡ Tree) × Rises v w). inr (t.0, rises_then u v w passes t.1)) failed

-- ---- the entry that was found
pub found_saved : (o : Option (Entry × List ℕ)) (x : Entry × List ℕ) → Some x ≡ o → IsSome (if_saved o) → is_saved (name_of x.0) ≡ true
found_saved o x is some = by (is_saved (name_of x.0)) refl (subst (λ p. IsSome (if_saved p)) (sym is) some)
  where
    by : (v : Bool) → is_saved (name_of x.0) ≡ v → IsSome (cond v (Some x) None) → v ≡ true
    by true s h = refl
    by false s h = absurd (let no : false ≡ true = h in cc)

pub found_none : (o : Option (Entry × List ℕ)) → ◌≡◌ {A = Option (Entry × List ℕ)} None o → IsSome (if_saved o) → ⊥
found_none o is some = let no : false ≡ true = subst (λ p. IsSome (if_saved p)) (sym is) some in cc

-- ---- what is said of the whole, for any entries that the save is read as
pub all_files : {R E : Type 0} (u w : TreeView) (o : Option (List Entry)) (r : Result R E) → ((es : List Entry) → o ≡ Some es → Restores u w r es) → OnOk r ((es : List Entry) → o ≡ Some es → Becomes u w (restored es))
all_files u w o (Ok x) all = λ es is. restores_files (Ok x) (all es is)
all_files u w o (Err d) all = tt
