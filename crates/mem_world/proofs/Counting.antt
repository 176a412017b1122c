-- The numbers of the device calls.
use Rattle.std.proofs.Common.{◌≡◌, ◌⊎◌, inl, inr, ℕ, ◌+◌, ◌≤◌, ◌<◌, List, [], ◌∷◌, ◌++◌, length, Bool, true, false, ◌&&◌, cond, nat_lt, nat_eq, refl, sym, ◌∙◌, ap, subst, arith, length-append}
use Rattle.std.specs.List.{All, count_by}
use Rattle.std.proofs.lemmas.Bool.{ne_eqb, eq-eqb, lt-ltb, le-ltb}
use Rattle.std.proofs.Math.Nat.{le_refl}
use Rattle.std.proofs.lemmas.List.Elements.{All-head, All-tail, All-weaker}
use Rattle.std.proofs.lemmas.List.Sums.{sum_by-append, sum_by-cons}
use Rattle.mem_world.specs.Device.{is_call, began_at, ended_at}
use Rattle.mem_world.specs.Disk.{Event, Note, Logs}

count-push : (p : Note → Bool) (es : List Note) (x : Note) (b : Bool) → p x ≡ b → count_by p (es ++ x ∷ []) ≡ count_by p es + cond b 1 0
count-push p es x b is = omega (arith, sum_by-append (λ y. cond (p y) 1 0) es (x ∷ []), sum_by-cons (λ y. cond (p y) 1 0) x [], ap {B = ℕ} (λ t. cond t 1 0) is)

count-all : (p : Note → Bool) (es : List Note) → All (λ x. p x ≡ true) es → count_by p es ≡ length es
count-all p [] all = refl
count-all p (x ∷ es) all =
    omega (arith, sum_by-cons (λ y. cond (p y) 1 0) x es, ap {B = ℕ} (λ b. cond b 1 0) (All-head (λ y. p y ≡ true) x es all), count-all p es (All-tail (λ y. p y ≡ true) x es all))

count-none : (p : Note → Bool) (es : List Note) → All (λ x. p x ≡ false) es → count_by p es ≡ 0
count-none p [] all = refl
count-none p (x ∷ es) all =
    omega (arith, sum_by-cons (λ y. cond (p y) 1 0) x es, ap {B = ℕ} (λ b. cond b 1 0) (All-head (λ y. p y ≡ false) x es all), count-none p es (All-tail (λ y. p y ≡ false) x es all))

abbrev before : ℕ → Note → Bool
before n x = nat_lt x.call n

abbrev at_call : ℕ → Note → Bool
at_call n x = nat_eq x.call n && is_call x.event

-- all that was kept came before a later call
began-later : (es : List Note) (c n : ℕ) → All (λ x. x.call ≤ c) es → c < n → began_at es n ≡ length es
began-later es c n all lt = count-all (before n) es (All-weaker (λ x. x.call ≤ c) (λ x. before n x ≡ true) (λ x le. lt-ltb x.call n (omega arith)) es all)

none_at : (es : List Note) (c n : ℕ) → All (λ x. x.call ≤ c) es → c < n → count_by (at_call n) es ≡ 0
none_at es c n all lt = count-none (at_call n) es (All-weaker (λ x. x.call ≤ c) (λ x. at_call n x ≡ false) (λ x le. ap (λ b. b && is_call x.event) (ne_eqb x.call n (λ e. omega arith))) es all)

-- ---- one more
module _ (es later : List Note) (k : ℕ) (e : Event) (logs : Logs es later k e) where
  long : length later ≡ length es + 1
  long = omega (arith, ap length logs, length-append es (record { call = k; event = e } ∷ []))

  began-same : (n : ℕ) → n ≤ k → began_at later n ≡ began_at es n
  began-same n le = omega (arith, ap (λ l. count_by (before n) l) logs, count-push (before n) es (record { call = k; event = e }) false (le-ltb k n le))

  at-same : (n : ℕ) → (nat_eq k n && is_call e) ≡ false → count_by (at_call n) later ≡ count_by (at_call n) es
  at-same n none = omega (arith, ap (λ l. count_by (at_call n) l) logs, count-push (at_call n) es (record { call = k; event = e }) false none)

  at-more : is_call e ≡ true → count_by (at_call k) later ≡ count_by (at_call k) es + 1
  at-more call = omega (arith, ap (λ l. count_by (at_call k) l) logs, count-push (at_call k) es (record { call = k; event = e }) true (ap (λ b. b && is_call e) (eq-eqb k k refl) ∙ call))

-- when the calls began and ended
pub record Numbers (es later : List Note) (c k : ℕ) : Type 0 where
  pub began : c < k → began_at later k ≡ length es
  pub ended : c < k → ended_at later k ≡ length later
  pub past : (n : ℕ) → n < k → (began_at later n ≡ began_at es n) × (ended_at later n ≡ ended_at es n)

numbers_same : (es : List Note) (c k : ℕ) → All (λ x. x.call ≤ c) es → Numbers es es c k
numbers_same es c k all = record {
  began = λ lt. began-later es c k all lt;
  ended = λ lt. omega (arith, began-later es c k all lt, none_at es c k all lt);
  past = λ n lt. (refl, refl);
}

numbers_more : (es later : List Note) (c k : ℕ) (e : Event) → All (λ x. x.call ≤ c) es → is_call e ≡ true → Logs es later k e → Numbers es later c k
numbers_more es later c k e all call logs = record {
  began = λ lt. began-same es later k e logs k (le_refl k) ∙ began-later es c k all lt;
  ended = λ lt. omega (arith, began-same es later k e logs k (le_refl k), began-later es c k all lt, at-more es later k e logs call, none_at es c k all lt, long es later k e logs);
  past = λ n lt.
      let b = began-same es later k e logs n (omega arith) in
      (b, omega (arith, b, at-same es later k e logs n (ap (λ t. t && is_call e) (ne_eqb k n (λ eq. omega arith)))));
}

pub numbers : (es later : List Note) (c k : ℕ) → All (λ x. x.call ≤ c) es → ((later ≡ es) ⊎ ((e : Event) × (is_call e ≡ true) × Logs es later k e)) → Numbers es later c k
numbers es later c k all (inl is) = subst (λ (l : List Note). Numbers es l c k) (sym is) (numbers_same es c k all)
numbers es later c k all (inr (e, call, logs)) = numbers_more es later c k e all call logs

-- a file that is bound is no call
pub past_bound : (es later : List Note) (k : ℕ) (e : Event) → is_call e ≡ false → Logs es later k e → (n : ℕ) → n ≤ k → (began_at later n ≡ began_at es n) × (ended_at later n ≡ ended_at es n)
past_bound es later k e none logs n le =
    let b = began-same es later k e logs n le in
    (b, omega (arith, b, at-same es later k e logs n (and_none (nat_eq k n) (is_call e) none)))
  where
    and_none : (t u : Bool) → u ≡ false → (t && u) ≡ false
    and_none true u is = is
    and_none false u is = refl
