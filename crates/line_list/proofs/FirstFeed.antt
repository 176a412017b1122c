-- What an iterator over the places of a byte gives first is the first such place.
use Rattle.std.proofs.Common.{◌≡◌, ℕ, zero, suc, ◌+◌, Bool, true, false, List, [], ◌∷◌, Option, Some, None, ◌-◌, get_or, length, slice_index, sym, ap, subst, ◌∙◌, arith, ⊎_elim}
use Rattle.std.proofs.Math.Nat.{eq-or-lt_of_le}
use Rattle.std.proofs.lemmas.Bool.{cases_Bool, cond-true, cond-false, false≢true}
use Rattle.memchr.specs.Find.{IsFirstByte, TakesFirst, Passes, Nowhere, NoneBefore, places, places_from}

apart : (k : ℕ) (more : List ℕ) → k ∷ more ≡ [] → ⊥
apart k more e = let n : suc (length more) ≡ 0 = ap length e in absurd (omega (arith, n))

module _ (test : ℕ → Bool) (hay : List ℕ) where
  here : (i n : ℕ) → Passes test hay i → places_from test hay i (suc n) ≡ i ∷ places_from test hay (i + 1) n
  unfolding places_from
  here i n h = cond-true _ _ _ h

  past : (i n : ℕ) → test (slice_index hay i) ≡ false → places_from test hay i (suc n) ≡ places_from test hay (i + 1) n
  unfolding places_from
  past i n f = cond-false _ _ _ f

  -- a place that doesn't pass stands in front of places of which none does
  earlier : (i j : ℕ) → test (slice_index hay i) ≡ false → Nowhere (Passes test hay) (i + 1) j → Nowhere (Passes test hay) i j
  earlier i j f later k low high p = ⊎_elim
      (λ same. absurd (false≢true (sym f ∙ subst (λ q. test (slice_index hay q) ≡ true) (sym same) p)))
      (λ far. later k (omega (arith, far)) high p)
      (eq-or-lt_of_le low)

  nowhere : (i n : ℕ) → places_from test hay i n ≡ [] → Nowhere (Passes test hay) i (i + n)
  unfolding places_from
  nowhere i zero e = λ k low high p. absurd (omega (arith, low, high))
  nowhere i (suc n) e = ⊎_elim
      (λ t. absurd (apart i _ (sym (here i n t) ∙ e)))
      (λ f. earlier i (i + suc n) f (subst (Nowhere (Passes test hay) (i + 1)) (omega arith) (nowhere (i + 1) n (sym (past i n f) ∙ e))))
      (cases_Bool (test (slice_index hay i)))

  leads : (i n k : ℕ) (more : List ℕ) → places_from test hay i n ≡ k ∷ more → NoneBefore (Passes test hay) i (i + n) k × Passes test hay k
  unfolding places_from
  leads i zero k more e = absurd (apart k more (sym e))
  leads i (suc n) k more e = ⊎_elim
      (λ t.
      let same : i ≡ k = ap (λ l. get_or l 0 0) (sym (here i n t) ∙ e) in
      subst (λ q. NoneBefore (Passes test hay) i (i + suc n) q × Passes test hay q) same
      (record { low = omega arith; high = omega arith; before = λ m low high p. absurd (omega (arith, low, high)) }, t))
      (λ f.
      let found : NoneBefore (Passes test hay) (i + 1) (i + 1 + n) k × Passes test hay k = leads (i + 1) n k more (sym (past i n f) ∙ e) in (
        record {
          low = omega (arith, found.0.low);
          high = omega (arith, found.0.high);
          before = earlier i k f found.0.before;
        },
        found.1,
      ))
      (cases_Bool (test (slice_index hay i)))

  pub first-byte : (r : Option ℕ) (behind : List ℕ) → TakesFirst (places test hay) r behind → IsFirstByte test hay r
  first-byte None behind h =
      let all : length hay - 0 ≡ length hay = omega arith in
      let end : 0 + length hay ≡ length hay = omega arith in
      subst (Nowhere (Passes test hay) 0) end (nowhere 0 (length hay) (ap (places_from test hay 0) (sym all) ∙ h.0))
  first-byte (Some k) behind h =
      let all : length hay - 0 ≡ length hay = omega arith in
      let end : 0 + length hay ≡ length hay = omega arith in
      let found = leads 0 (length hay) k behind (ap (places_from test hay 0) (sym all) ∙ h) in
      (subst (λ n. NoneBefore (Passes test hay) 0 n k) end found.0, found.1)
