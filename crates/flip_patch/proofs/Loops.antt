-- A loop that writes a text for each element of a list, from the last to the first.
use Rattle.std.proofs.Common.{◌≡◌, ℕ, ◌+◌, ◌<◌, ◌≤◌, List, [], ◌∷◌, ◌++◌, length, take, drop, reverse, Some, Ok, Err, sym, ap, subst, ◌∙◌}
use Rattle.std.specs.Prelude.{slice_get}
use Rattle.std.specs.List.{flat_map}
use Rattle.std.proofs.lemmas.List.{take-append-drop, drop_all, drop_more, flat_map_more, reverse-append}
use Rattle.std.proofs.lemmas.Grind.{flat_map-append}
use Rattle.std.proofs.lemmas.Option.{get_or_from_slice_get}
use Rattle.outside.specs.SinkView.{SinkView}
use Rattle.outside.specs.Puts.{Puts}
use Rattle.outside.proofs.SinkSteps.{HasPut, GoesOn, has-none, has-put, has-more, puts-more, puts-stop, puts-done}

module _ {A : Type 0} (f : A → List ℕ) (xs : List A) where
  -- what is written of the elements from one on
  abbrev pub back_to : ℕ → List ℕ
  back_to k = flat_map f (reverse (drop k xs))

  pub here : (k : ℕ) (x : A) → k < length xs → slice_get xs k ≡ Some x → drop k xs ≡ x ∷ drop (k + 1) xs
  here k x lt is = drop_more xs k x lt ∙ ap (λ y. y ∷ drop (k + 1) xs) (get_or_from_slice_get xs k x x is)

  pub one-back : (k : ℕ) (x : A) → k < length xs → slice_get xs k ≡ Some x → back_to (k + 1) ++ f x ≡ back_to k
  one-back k x lt is =
      flat_map_more f [] (reverse (drop (k + 1) xs)) x
      ∙ ap (flat_map f) (sym (ap reverse (here k x lt is) ∙ reverse-append (x ∷ []) (drop (k + 1) xs)))

  pub all-back : (k : ℕ) → back_to k ++ flat_map f (reverse (take k xs)) ≡ flat_map f (reverse xs)
  all-back k =
      sym (flat_map-append f (reverse (drop k xs)) (reverse (take k xs)))
      ∙ ap (flat_map f) (sym (ap reverse (sym (take-append-drop k xs)) ∙ reverse-append (take k xs) (drop k xs)))

  module _ {O : Type 0} {view : O → SinkView} {same : O → O → Type 0} (on : GoesOn same) where
    pub begins-back : (stays : (x : O) → same x x) (old : O) (k : ℕ) → length xs ≤ k → HasPut view same old old (back_to k)
    begins-back stays old k all = subst (HasPut view same old old) (sym (ap (λ ys. flat_map f (reverse ys)) (drop_all k xs all))) (has-none stays old)

    pub goes-back : {old mid new : O} (k : ℕ) (x : A) {R E : Type 0} (r : R) → k < length xs → slice_get xs k ≡ Some x
        → HasPut view same old mid (back_to (k + 1)) → Puts {E = E} view same mid new (Ok r) (f x) → HasPut view same old new (back_to k)
    goes-back k x r lt is before put = subst (HasPut view same _ _) (one-back k x lt is) (has-more on before (has-put r put))

    pub stops-back : {old mid new : O} (k : ℕ) (x : A) {R S E F : Type 0} (e : E) (d : F) → k < length xs → slice_get xs k ≡ Some x
        → HasPut view same old mid (back_to (k + 1)) → Puts {R = R} view same mid new (Err e) (f x) → Puts {R = S} view same old new (Err d) (flat_map f (reverse xs))
    stops-back k x {S = S} e d lt is before put =
        let rest = flat_map f (reverse (take k xs)) in
        let whole : (back_to (k + 1) ++ f x) ++ rest ≡ flat_map f (reverse xs) = ap (λ t. t ++ rest) (one-back k x lt is) ∙ all-back k in
        subst (Puts {R = S} view same _ _ (Err d)) whole (puts-stop e d rest (puts-more on before put))

    pub ends-back : {old new : O} (k : ℕ) {R E : Type 0} (r : R) → k ≡ 0 → HasPut view same old new (back_to k) → Puts {E = E} view same old new (Ok r) (flat_map f (reverse xs))
    ends-back k r end before = puts-done r (subst (HasPut view same _ _) (ap back_to end) before)
