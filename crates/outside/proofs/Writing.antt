-- How writes to a sink go on from one another.
use Rattle.std.proofs.Common.{◌≡◌, inl, inr, ⊎_elim, ◌+◌, ◌<◌, ◌≤◌, ℕ, suc, List, [], ◌∷◌, ◌++◌, length, take, drop, Some, Result, Ok, Err, IsErr, refl, sym, ◌∙◌, ap, subst, arith, append_assoc, zero-add}
use Rattle.std.proofs.lemmas.Bool.{cases_lt}
use Rattle.std.proofs.lemmas.List.{take-append-le, take-append-drop, take_all, append-nil}
use Rattle.outside.specs.SinkView.{SinkView, sink_passes_none, sink_passes_both, Receives, ReceivesPart, Writes, IsSinkCall}

take-over : {A : Type 0} (xs ys : List A) (n : ℕ) → take (length xs + n) (xs ++ ys) ≡ xs ++ take n ys
take-over [] ys n = ap (λ m. take m ys) (zero-add n)
take-over (x ∷ xs) ys n =
    let e : length (x ∷ xs) + n ≡ suc (length xs + n) = omega arith in
    ap (λ m. take m (x ∷ (xs ++ ys))) e ∙ ap (λ (l : List _). x ∷ l) (take-over xs ys n)

module _ (a b : SinkView) where
  pub received_part : (p : List ℕ) → Receives a b p → ReceivesPart a b p
  received_part p is x told = inr (length p, is x told ∙ ap (λ (l : List ℕ). Some (x ++ l)) (sym (take_all (length p) p (omega arith))))

  pub part_longer : (p q : List ℕ) → ReceivesPart a b p → ReceivesPart a b (p ++ q)
  part_longer p q is x told = ⊎_elim
      (λ none. inl none)
      (λ (n, some). ⊎_elim
      (λ (lt : n < length p). inr (n, some ∙ ap (λ (l : List ℕ). Some (x ++ l)) (sym (take-append-le n p q (omega (arith, lt))))))
      (λ (le : length p ≤ n). inr (
        length p,
        some ∙ ap (λ (l : List ℕ). Some (x ++ l)) (take_all n p le ∙ sym (take_all (length p) p (omega arith)) ∙ sym (take-append-le (length p) p q (omega arith))),
      ))
      (cases_lt n (length p)))
      (is x told)

  module _ (c : SinkView) (p q : List ℕ) (first : Receives a b p) where
    pub received_both : Receives b c q → Receives a c (p ++ q)
    received_both second x told = second (x ++ p) (first x told) ∙ ap (λ (l : List ℕ). Some l) (append_assoc x p q)

    pub part_after : ReceivesPart b c q → ReceivesPart a c (p ++ q)
    part_after second x told = ⊎_elim
        (λ none. inl none)
        (λ (n, some). inr (length p + n, some ∙ ap (λ (l : List ℕ). Some l) (append_assoc x p (take n q) ∙ ap (λ (l : List ℕ). x ++ l) (sym (take-over p q n)))))
        (second (x ++ p) (first x told))

pub received_none : (a : SinkView) → Receives a a []
received_none a x told = told ∙ ap (λ (l : List ℕ). Some l) (sym (append-nil x))

-- nothing more is written after a fault
pub writes_stop : {R S E D : Type 0} {a b : SinkView} {p : List ℕ} (e : E) (s : Result S D) (q : List ℕ) → IsErr s → Writes {R = R} a b (Err e) p → Writes a b s (p ++ q)
writes_stop e (Ok x) q is w = absurd (cc)
writes_stop {a = a} {b = b} {p = p} e (Err d) q is w = record {
  call = record { passes = w.call.passes; cause = λ err. w.call.cause refl };
  received = tt;
  failed = part_longer a b p q w.failed;
}

pub writes_then : {R S E D : Type 0} {a b c : SinkView} {p q : List ℕ} (x : R) (r : Result S D) → Writes {E = E} a b (Ok x) p → Writes b c r q → Writes a c r (p ++ q)
writes_then {a = a} {b = b} {c = c} {p = p} {q = q} x (Ok y) v w = record {
  call = record { passes = sink_passes_both v.call.passes w.call.passes; cause = λ err. absurd (cc) };
  received = received_both a b c p q v.received w.received;
  failed = tt;
}
writes_then {a = a} {b = b} {c = c} {p = p} {q = q} x (Err d) v w = record {
  call = record { passes = sink_passes_both v.call.passes w.call.passes; cause = λ err small. omega (arith, w.call.cause refl small, v.call.passes.counts) };
  received = tt;
  failed = part_after a b c p q v.received w.failed;
}

pub writes_none : {R E : Type 0} (a : SinkView) (x : R) → Writes {E = E} a a (Ok x) []
writes_none a x = record { call = record { passes = sink_passes_none a; cause = λ err. absurd (cc) }; received = received_none a; failed = tt }

pub writes_is : {R E : Type 0} {a b : SinkView} {p : List ℕ} (r : Result R E) (q : List ℕ) → Writes a b r p → p ≡ q → Writes a b r q
writes_is {a = a} {b = b} r q w e = subst (λ (l : List ℕ). Writes a b r l) e w

-- a first call that failed
pub stop_all : {R S E D : Type 0} {a b : SinkView} (e : E) (s : Result S D) (p q : List ℕ) → IsErr s → IsSinkCall {R = R} a b (Err e) → ReceivesPart a b p → Writes a b s (p ++ q)
stop_all e s p q is call failed = writes_stop e s q is (record { call = call; received = tt; failed = failed })

-- a first call, and what follows it
pub then_all : {R S E D : Type 0} {a b c : SinkView} (x : R) (r : Result S D) (p q : List ℕ) → IsSinkCall {E = E} a b (Ok x) → Receives a b p → Writes b c r q → Writes a c r (p ++ q)
then_all x r p q call received more = writes_then x r (record { call = call; received = received; failed = tt }) more

-- a call that took nothing, behind a first part of a piece
pub broken_off : (a b c : SinkView) (piece : List ℕ) (at : ℕ) → Receives a b (take at piece) → ReceivesPart b c [] → ReceivesPart a c piece
broken_off a b c piece at first second = subst (ReceivesPart a c) (take-append-drop at piece)
    (part_longer a c (take at piece) (drop at piece) (subst (ReceivesPart a c) (append-nil (take at piece)) (part_after a b c (take at piece) [] first second)))
