-- Texts made by a run of numbers, and the states of a run of draws.
use Rattle.std.proofs.Common.{◌≡◌, ℕ, zero, suc, ◌+◌, ◌*◌, List, ◌++◌, refl, sym, ap, ◌∙◌, arith, append_assoc, Result, Ok, Err, OnOk}
use Rattle.std.specs.Result.{IsErrAnd}
use Rattle.std.specs.List.{flat_map, range_with_len}
use Rattle.std.proofs.lemmas.List.{append-nil}
use Rattle.patch_gen.specs.Lcg.{next_state, state_after}

-- one number more
more : (f : ℕ → List ℕ) (a n j : ℕ) → a + n ≡ j → flat_map f (range_with_len a (suc n)) ≡ flat_map f (range_with_len a n) ++ f j
more f a zero j e = let same : a ≡ j = omega arith in append-nil (f a) ∙ ap f same
more f a (suc n) j e = ap (λ l. f a ++ l) (more f (a + 1) n j (omega arith)) ∙ sym (append_assoc (f a) (flat_map f (range_with_len (a + 1) n)) (f j))

pub run-next : (f : ℕ → List ℕ) (n : ℕ) → flat_map f (range_with_len 1 (n + 1)) ≡ flat_map f (range_with_len 1 n) ++ f (n + 1)
run-next f n = let on : n + 1 ≡ suc n = omega arith in ap (λ k. flat_map f (range_with_len 1 k)) on ∙ more f 1 n (n + 1) (omega arith)

-- a loop's step: one piece more
pub run-more : (f : ℕ → List ℕ) (front text piece new : List ℕ) (n : ℕ) → text ≡ front ++ flat_map f (range_with_len 1 n) → new ≡ text ++ piece → piece ≡ f (n + 1) → new ≡ front ++ flat_map f (range_with_len 1 (n + 1))
run-more f front text piece new n e is is-piece =
    is ∙ ap (λ l. text ++ l) is-piece ∙ ap (λ t. t ++ f (n + 1)) e ∙ append_assoc front (flat_map f (range_with_len 1 n)) (f (n + 1)) ∙ ap (λ l. front ++ l) (sym (run-next f n))

pub state-start : (x : ℕ) → state_after x 0 ≡ x
unfolding state_after
state-start x = refl

pub state-more : (x n : ℕ) → state_after x (n + 1) ≡ next_state (state_after x n)
unfolding state_after
state-more x n = let on : n + 1 ≡ suc n = omega arith in ap (state_after x) on

-- a run of draws after another
pub state-add : (x m n : ℕ) → state_after (state_after x m) n ≡ state_after x (m + n)
state-add x m zero = let on : m ≡ m + 0 = omega arith in state-start (state_after x m) ∙ ap (state_after x) on
state-add x m (suc n) =
    let on : suc n ≡ n + 1 = omega arith in
    let far : (m + n) + 1 ≡ m + suc n = omega arith in
    ap (state_after (state_after x m)) on ∙ state-more (state_after x m) n ∙ ap next_state (state-add x m n) ∙ sym (state-more x (m + n)) ∙ ap (state_after x) far

pub state-one : (x : ℕ) → state_after x 1 ≡ next_state x
unfolding state_after
state-one x = refl

-- the state behind n files of m draws each, and behind one more
pub state-files : (seed n m x new : ℕ) → x ≡ state_after seed (n * m) → new ≡ state_after x m → new ≡ state_after seed ((n + 1) * m)
state-files seed n m x new e is =
    let far : n * m + m ≡ (n + 1) * m = grind arith in
    is ∙ ap (λ y. state_after y m) e ∙ state-add seed (n * m) m ∙ ap (state_after seed) far

pub state-first : (seed m : ℕ) → state_after seed (0 * m) ≡ seed
state-first seed m = let none : 0 * m ≡ 0 = omega arith in ap (state_after seed) none ∙ state-start seed

-- a fault that is passed on: what is said behind an end says nothing
pub on_ok_none : {R E : Type 0} (P : Type 0) (Q : E → Type 0) (r : Result R E) → IsErrAnd r Q → OnOk r P
on_ok_none P Q (Ok x) is = absurd is
on_ok_none P Q (Err e) is = tt
