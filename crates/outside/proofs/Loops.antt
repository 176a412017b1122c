-- A loop that writes a text for each element of a list.
use Rattle.std.proofs.Common.{◌≡◌, ℕ, ◌+◌, ◌<◌, List, [], ◌∷◌, ◌++◌, length, take, drop, Some, Ok, Err, sym, ap, subst, ◌∙◌, arith}
use Rattle.std.specs.Prelude.{slice_get}
use Rattle.std.specs.List.{flat_map}
use Rattle.std.proofs.lemmas.List.{take_more, take_all, take-append-drop, flat_map_more}
use Rattle.std.proofs.lemmas.Grind.{flat_map-append}
use Rattle.std.proofs.lemmas.Option.{get_or_from_slice_get}
use Rattle.outside.specs.SinkView.{SinkView}
use Rattle.outside.specs.Puts.{Puts}
use Rattle.outside.proofs.SinkSteps.{HasPut, GoesOn, has-put, has-more, puts-more, puts-stop, puts-done}

module _ {A : Type 0} (f : A → List ℕ) (xs : List A) where
  -- what is written of the first elements
  abbrev pub up_to : ℕ → List ℕ
  up_to i = flat_map f (take i xs)

  pub one-more : (i : ℕ) (x : A) → i < length xs → slice_get xs i ≡ Some x → up_to i ++ f x ≡ up_to (i + 1)
  one-more i x lt is = flat_map_more f [] (take i xs) x ∙ ap (flat_map f) (sym (take_more xs i x lt ∙ ap (λ y. take i xs ++ y ∷ []) (get_or_from_slice_get xs i x x is)))

  pub both : (i : ℕ) → up_to i ++ flat_map f (drop i xs) ≡ flat_map f xs
  both i = sym (flat_map-append f (take i xs) (drop i xs)) ∙ ap (flat_map f) (take-append-drop i xs)

  module _ {O : Type 0} {view : O → SinkView} {same : O → O → Type 0} (on : GoesOn same) where
    pub goes-on : {old mid new : O} (i : ℕ) (x : A) {R E : Type 0} (r : R) → i < length xs → slice_get xs i ≡ Some x
        → HasPut view same old mid (up_to i) → Puts {E = E} view same mid new (Ok r) (f x) → HasPut view same old new (up_to (i + 1))
    goes-on i x r lt is before put = subst (HasPut view same _ _) (one-more i x lt is) (has-more on before (has-put r put))

    pub stops : {old mid new : O} (i : ℕ) (x : A) {R S E F : Type 0} (e : E) (d : F) → i < length xs → slice_get xs i ≡ Some x
        → HasPut view same old mid (up_to i) → Puts {R = R} view same mid new (Err e) (f x) → Puts {R = S} view same old new (Err d) (flat_map f xs)
    stops i x {S = S} e d lt is before put =
        let rest = flat_map f (drop (i + 1) xs) in
        let whole : (up_to i ++ f x) ++ rest ≡ flat_map f xs = ap (λ t. t ++ rest) (one-more i x lt is) ∙ both (i + 1) in
        subst (Puts {R = S} view same _ _ (Err d)) whole (puts-stop e d rest (puts-more on before put))

    pub ends : {old new : O} (i : ℕ) {R E : Type 0} (r : R) → i ≡ length xs → HasPut view same old new (up_to i) → Puts {E = E} view same old new (Ok r) (flat_map f xs)
    ends i r end before = puts-done r (subst (HasPut view same _ _) (ap (flat_map f) (take_all i xs (omega (arith, end)))) before)
