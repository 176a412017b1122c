-- Pieces that are written one behind the other.
use Rattle.std.proofs.Common.{◌≡◌, ℕ, ◌∷◌, [], ◌++◌, List, eqb, false, Result, Ok, Err, OnOk, ap, ◌∙◌, append_assoc}
use Rattle.std.specs.Prelude.{is_ok, if◌then◌else◌}
use Rattle.std.proofs.lemmas.Bool.{false_from_ne_true, eqb-true}
use Rattle.num_text.specs.Numbers.{decimal}
use Rattle.unified_form.specs.Canonical.{range_text}

pub put-then : (out : List ℕ) {middle end : List ℕ} (first second : List ℕ) → middle ≡ out ++ first → end ≡ middle ++ second → end ≡ out ++ (first ++ second)
put-then out first second e f = f ∙ ap (λ l. l ++ second) e ∙ append_assoc out first second

pub put-one : (out end : List ℕ) (start count : ℕ) → count ≡ 1 → end ≡ out ++ decimal start → end ≡ out ++ range_text start count
put-one out end start count one e = rw one e

pub put-two : (out first comma end : List ℕ) (start count : ℕ) → (count ≡ 1 → ⊥) → first ≡ out ++ decimal start → comma ≡ first ++ 44 ∷ [] → end ≡ comma ++ decimal count → end ≡ out ++ range_text start count
put-two out first comma end start count other e f g =
    let two : eqb count 1 ≡ false = false_from_ne_true (eqb count 1) (λ t. other (eqb-true count 1 t)) in
    rw two (put-then out (decimal start) (44 ∷ decimal count) e (put-then first (44 ∷ []) (decimal count) f g))

-- the last piece of a text, where the call that writes it is the answer
pub on-put : {R E P : Type 0} (r : Result R E) (new more old : List ℕ) → new ≡ (if is_ok r then more else old) → (new ≡ more → P) → OnOk r P
on-put (Ok x) new more old e f = f e
on-put (Err d) new more old e f = tt
