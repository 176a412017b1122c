-- Calls that write to a sink, one after the other.
use Rattle.std.proofs.Common.{◌≡◌, ◌⊎◌, inl, inr, ℕ, ◌+◌, List, [], ◌++◌, length, take, None, Some, Result, Ok, Err, refl, sym, ap, ◌∙◌, append_assoc, arith}
use Rattle.std.proofs.Math.Seq.{take-append_seam, take-append-add}
use Rattle.std.proofs.lemmas.List.{take-append-le, take_all, append-nil}
use Rattle.std.proofs.lemmas.Bool.{cases_lt}
use Rattle.std.proofs.lemmas.Result.{on_ok_weaker, on_err_weaker}
use Rattle.outside.specs.SinkView.{SinkView, SinkPasses, sink_passes_none, sink_passes_both, Receives}
use Rattle.outside.specs.Puts.{Puts}

-- what has been received so far, before a further call
pub record HasPut {O : Type 0} (view : O → SinkView) (same_rest : O → O → Type 0) (old new : O) (bytes : List ℕ) : Type 0 where
  pub passes : SinkPasses (view old) (view new)
  pub rest : same_rest old new
  pub received : Receives (view old) (view new) bytes

abbrev pub GoesOn : {O : Type 0} → (O → O → Type 0) → Type 0
GoesOn {O} same_rest = (x y z : O) → same_rest x y → same_rest y z → same_rest x z

-- a first part of a part is a first part of the whole
part : (n : ℕ) (a c : List ℕ) → (m : ℕ) × (take n a ≡ take m (a ++ c))
part n a c =
    elim (cases_lt n (length a)) [
      | inl less ↦ (n, sym (take-append-le n a c (omega (arith, less))))
      | inr all ↦ (length a, take_all n a all ∙ sym (take-append_seam a c))
    ]

pub has-put : {O R E : Type 0} {view : O → SinkView} {same : O → O → Type 0} {old new : O} {bytes : List ℕ} (x : R) → Puts {E = E} view same old new (Ok x) bytes → HasPut view same old new bytes
has-put x p = record { passes = p.call.passes; rest = p.rest; received = p.received }

pub has-none : {O : Type 0} {view : O → SinkView} {same : O → O → Type 0} → ((x : O) → same x x) → (old : O) → HasPut view same old old []
has-none {view = view} stays old = record { passes = sink_passes_none (view old); rest = stays old; received = λ b is. is ∙ ap (λ (l : List ℕ). Some l) (sym (append-nil b)) }

pub has-more : {O : Type 0} {view : O → SinkView} {same : O → O → Type 0} {old mid new : O} {a b : List ℕ} → GoesOn same → HasPut view same old mid a → HasPut view same mid new b → HasPut view same old new (a ++ b)
has-more {a = a} {b = b} on p q = record {
  passes = sink_passes_both p.passes q.passes;
  rest = on _ _ _ p.rest q.rest;
  received = λ front is. q.received _ (p.received front is) ∙ ap (λ (l : List ℕ). Some l) (append_assoc front a b);
}

pub puts-done : {O R E : Type 0} {view : O → SinkView} {same : O → O → Type 0} {old new : O} {bytes : List ℕ} (x : R) → HasPut view same old new bytes → Puts {E = E} view same old new (Ok x) bytes
puts-done x p = record { call = record { passes = p.passes; cause = λ none. absurd (cc) }; rest = p.rest; received = p.received; failed = tt }

-- a further call, whose answer is the whole's
pub puts-more : {O R E : Type 0} {view : O → SinkView} {same : O → O → Type 0} {old mid new : O} {r : Result R E} {a b : List ℕ} → GoesOn same → HasPut view same old mid a → Puts view same mid new r b → Puts view same old new r (a ++ b)
puts-more {view = view} {old = old} {mid = mid} {new = new} {r = r} {a = a} {b = b} on p q = record {
  call = record { passes = sink_passes_both p.passes q.call.passes; cause = λ err. λ small. omega (arith, p.passes.counts, q.call.cause err small) };
  rest = on _ _ _ p.rest q.rest;
  received = on_ok_weaker r (λ got. λ front is. got _ (p.received front is) ∙ ap (λ (l : List ℕ). Some l) (append_assoc front a b)) q.received;
  failed = on_err_weaker r (λ got. λ front is. late front (got _ (p.received front is))) q.failed;
}
  where
    late : (front : List ℕ) → ((view new).told ≡ None) ⊎ ((n : ℕ) × ((view new).told ≡ Some ((front ++ a) ++ take n b))) → ((view new).told ≡ None) ⊎ ((n : ℕ) × ((view new).told ≡ Some (front ++ take n (a ++ b))))
    late front (inl none) = inl none
    late front (inr got) = inr (length a + got.0, got.1 ∙ ap (λ (l : List ℕ). Some l) (append_assoc front a (take got.0 b) ∙ ap (λ (l : List ℕ). front ++ l) (sym (seam got.0))))
      where
        seam : (n : ℕ) → take (length a + n) (a ++ b) ≡ a ++ take n b
        seam n = take-append-add a b n

-- a call that failed, of a whole that would have gone on
pub puts-stop : {O R S E F : Type 0} {view : O → SinkView} {same : O → O → Type 0} {old new : O} {a : List ℕ} (e : E) (f : F) (c : List ℕ) → Puts {R = R} view same old new (Err e) a → Puts {R = S} view same old new (Err f) (a ++ c)
puts-stop {view = view} {old = old} {new = new} {a = a} e f c p = record {
  call = record { passes = p.call.passes; cause = λ err. p.call.cause refl };
  rest = p.rest;
  received = tt;
  failed = λ front is. early front (p.failed front is);
}
  where
    early : (front : List ℕ) → ((view new).told ≡ None) ⊎ ((n : ℕ) × ((view new).told ≡ Some (front ++ take n a))) → ((view new).told ≡ None) ⊎ ((n : ℕ) × ((view new).told ≡ Some (front ++ take n (a ++ c))))
    early front (inl none) = inl none
    early front (inr got) = let k = part got.0 a c in inr (k.0, got.1 ∙ ap (λ (l : List ℕ). Some (front ++ l)) k.1)
