-- The best of several names, found one after another.
use Rattle.std.proofs.Common.{◌≡◌, ℕ, zero, suc, ◌<◌, ◌⊎◌, inl, inr, ⊎_elim, List, [], length, Bool, true, false, cond, not, ◌&&◌, ltb, eqb, Option, None, Some, refl, sym, subst, ◌∙◌, arith, ◌↔◌}
use Rattle.std.proofs.lemmas.Bool.{false≢true, ltb-true, ltb-false, lt-ltb, le-ltb, eq-eqb, ne_eqb, cases_order, cases_lt, and_from, and_left, not_from_true, not_from_false}
use Rattle.std.proofs.lemmas.List.Folds.{list_any_none, list_any_at}
use Rattle.std.proofs.lemmas.List.Sums.{position_or_len_is}
use Rattle.std.proofs.lemmas.List.Elements.{All-from_get_or}
use Rattle.std.specs.List.{list_any, position_or_len}
use Rattle.name_choice.specs.Better.{smaller_then, is_shorter, last_length, component_count, is_better, best_among, name_at, IsBest, IsNone}

-- ---- better is an order

-- a smaller number, or an equal one where the rest says so
abbrev pub lex : ℕ → ℕ → Bool → Bool
lex m n t = cond (eqb m n) t (ltb m n)

pub lex-less : (m n : ℕ) (t : Bool) → m < n → lex m n t ≡ true
lex-less m n t lt = rw (ne_eqb m n (λ e. omega arith)) (lt-ltb m n lt)

pub lex-more : (m n : ℕ) (t : Bool) → n < m → lex m n t ≡ false
lex-more m n t lt = rw (ne_eqb m n (λ e. omega arith)) (le-ltb m n (omega arith))

pub lex-same : (m n : ℕ) (t : Bool) → m ≡ n → lex m n t ≡ t
lex-same m n t e = rw (eq-eqb m n e) refl

pub lex-true : (m n : ℕ) (t : Bool) → lex m n t ≡ true → (m < n) ⊎ ((m ≡ n) × (t ≡ true))
lex-true m n t is = ⊎_elim
    (λ e. inr (e, sym (lex-same m n t e) ∙ is))
    (λ ne. ⊎_elim (λ lt. inl lt) (λ gt. absurd (false≢true (sym (lex-more m n t gt) ∙ is))) ne)
    (cases_order m n)

pub lex-false : (m n : ℕ) (t : Bool) → lex m n t ≡ false → (n < m) ⊎ ((m ≡ n) × (t ≡ false))
lex-false m n t is = ⊎_elim
    (λ e. inr (e, sym (lex-same m n t e) ∙ is))
    (λ ne. ⊎_elim (λ lt. absurd (false≢true (sym is ∙ lex-less m n t lt))) (λ gt. inl gt) ne)
    (cases_order m n)

-- never both ways; and where c is worse than a and not than b, b is worse than a
pub record IsOrder (better : List ℕ → List ℕ → Bool) : Type 0 where
  pub asym : (a b : List ℕ) → better a b ≡ true → better b a ≡ false
  pub weak : (a b c : List ℕ) → better a c ≡ true → better b c ≡ false → better a b ≡ true

shorter-order : IsOrder is_shorter
shorter-order = record {
  asym = λ a b h. let lt = ltb-true (length a) (length b) h in le-ltb (length b) (length a) (omega (arith, lt));
  weak = λ a b c h k. let lt = ltb-true (length a) (length c) h in let le = ltb-false (length b) (length c) k in lt-ltb (length a) (length b) (omega (arith, lt, le));
}

pub smaller-order : (count : List ℕ → ℕ) (next : List ℕ → List ℕ → Bool) → IsOrder next → IsOrder (smaller_then count next)
smaller-order count next o = record {
  asym = λ a b h. ⊎_elim
      (λ lt. lex-more (count b) (count a) (next b a) lt)
      (λ p. lex-same (count b) (count a) (next b a) (sym p.0) ∙ o.asym a b p.1)
      (lex-true (count a) (count b) (next a b) h);
  weak = λ a b c h k. ⊎_elim
      (λ lt. ⊎_elim
      (λ gt. lex-less (count a) (count b) (next a b) (omega (arith, lt, gt)))
      (λ p. lex-less (count a) (count b) (next a b) (omega (arith, lt, p.0)))
      (lex-false (count b) (count c) (next b c) k))
      (λ q. ⊎_elim
      (λ gt. lex-less (count a) (count b) (next a b) (omega (arith, q.0, gt)))
      (λ p. lex-same (count a) (count b) (next a b) (q.0 ∙ sym p.0) ∙ o.weak a b c q.1 p.1)
      (lex-false (count b) (count c) (next b c) k))
      (lex-true (count a) (count c) (next a c) h);
}

pub better-order : IsOrder is_better
better-order = smaller-order component_count (smaller_then last_length is_shorter) (smaller-order last_length is_shorter shorter-order)

itself : (better : List ℕ → List ℕ → Bool) → IsOrder better → (a : List ℕ) → better a a ≡ false
itself better o a = elim (better a a) as (λ b. better a a ≡ b → better a a ≡ false) [
  | true ↦ λ is. o.asym a a is
  | false ↦ λ is. is
] refl

-- ---- one name after another

module _ (admits : List ℕ → Bool) (better : List ℕ → List ℕ → Bool) (names : List (List ℕ)) where
  -- the better of the best so far and the name at a place behind it
  abbrev pub pick : Option ℕ → ℕ → ℕ
  pick None i = i
  pick (Some k) i = cond (better (name_at names i) (name_at names k)) i k

  -- the best of the first names
  abbrev pub walk : ℕ → Option ℕ
  walk zero = None
  walk (suc i) = cond (admits (name_at names i)) (Some (pick (walk i) i)) (walk i)

  -- the best of the first i names
  pub record IsFirstBest (i k : ℕ) : Type 0 where
    pub within : k < i
    pub admitted : admits (name_at names k) ≡ true
    pub unbeaten : (j : ℕ) → j < i → admits (name_at names j) ≡ true → better (name_at names j) (name_at names k) ≡ false
    pub first : (j : ℕ) → j < k → admits (name_at names j) ≡ true → better (name_at names k) (name_at names j) ≡ true

  abbrev pub Stands : ℕ → Option ℕ → Type 0
  Stands i None = (j : ℕ) → j < i → admits (name_at names j) ≡ false
  Stands i (Some k) = IsFirstBest i k

  -- what holds of the first i and of the next
  more : (i : ℕ) (P : ℕ → Type 0) → ((j : ℕ) → j < i → P j) → P i → (j : ℕ) → j < suc i → P j
  more i P below here j lt = ⊎_elim (λ l. below j l) (λ ge. let e : i ≡ j = omega arith in subst P e here) (cases_lt j i)

  skip : (i : ℕ) (o : Option ℕ) → admits (name_at names i) ≡ false → Stands i o → Stands (suc i) o
  skip i None loses s = more i (λ j. admits (name_at names j) ≡ false) s loses
  skip i (Some k) loses s = record {
    within = omega (arith, s.within);
    admitted = s.admitted;
    unbeaten = more i (λ j. admits (name_at names j) ≡ true → better (name_at names j) (name_at names k) ≡ false) s.unbeaten (λ adms. absurd (false≢true (sym loses ∙ adms)));
    first = s.first;
  }

  module _ (o : IsOrder better) where
    beats : (i k : ℕ) → admits (name_at names i) ≡ true → better (name_at names i) (name_at names k) ≡ true → IsFirstBest i k → IsFirstBest (suc i) i
    beats i k adms is s = record {
      within = omega arith;
      admitted = adms;
      unbeaten = more i (λ j. admits (name_at names j) ≡ true → better (name_at names j) (name_at names i) ≡ false)
          (λ j lt adm. o.asym _ _ (o.weak _ (name_at names j) _ is (s.unbeaten j lt adm)))
          (λ adm. itself better o (name_at names i));
      first = λ j lt adm. o.weak _ (name_at names j) _ is (s.unbeaten j lt adm);
    }

    stays : (i k : ℕ) → better (name_at names i) (name_at names k) ≡ false → IsFirstBest i k → IsFirstBest (suc i) k
    stays i k loses s = record {
      within = omega (arith, s.within);
      admitted = s.admitted;
      unbeaten = more i (λ j. admits (name_at names j) ≡ true → better (name_at names j) (name_at names k) ≡ false) s.unbeaten (λ adm. loses);
      first = s.first;
    }

    takes : (i : ℕ) (p : Option ℕ) → admits (name_at names i) ≡ true → Stands i p → Stands (suc i) (Some (pick p i))
    takes i None adms s = record {
      within = omega arith;
      admitted = adms;
      unbeaten = more i (λ j. admits (name_at names j) ≡ true → better (name_at names j) (name_at names i) ≡ false)
          (λ j lt adm. absurd (false≢true (sym (s j lt) ∙ adm)))
          (λ adm. itself better o (name_at names i));
      first = λ j lt adm. absurd (false≢true (sym (s j lt) ∙ adm));
    }
    takes i (Some k) adms s = elim (better (name_at names i) (name_at names k)) as (λ b. better (name_at names i) (name_at names k) ≡ b → IsFirstBest (suc i) (cond b i k)) [
      | true ↦ λ is. beats i k adms is s
      | false ↦ λ is. stays i k is s
    ] refl

    pub walked : (i : ℕ) → Stands i (walk i)
    walked zero = λ j lt. absurd (omega arith)
    walked (suc i) = elim (admits (name_at names i)) as (λ b. admits (name_at names i) ≡ b → Stands (suc i) (cond b (Some (pick (walk i) i)) (walk i))) [
      | true ↦ λ is. takes i (walk i) is (walked i)
      | false ↦ λ is. skip i (walk i) is (walked i)
    ] refl

-- ---- the first that is unbeaten

module _ (admits : List ℕ → Bool) (names : List (List ℕ)) where
  -- the test of the definition
  abbrev pub unbeaten_test : List ℕ → Bool
  unbeaten_test n = admits n && not (list_any (λ m. admits m && is_better m n) names)

  none_beats : (n : List ℕ) → ((j : ℕ) → j < length names → admits (name_at names j) ≡ true → is_better (name_at names j) n ≡ false) → list_any (λ m. admits m && is_better m n) names ≡ false
  none_beats n unbeaten = list_any_none (λ m. admits m && is_better m n) names (All-from_get_or (λ m. (admits m && is_better m n) ≡ false) names []
      (λ j lt. elim (admits (name_at names j)) as (λ b. admits (name_at names j) ≡ b → (b && is_better (name_at names j) n) ≡ false) [
        | true ↦ λ is. unbeaten j lt is
        | false ↦ λ is. refl
      ] refl))

  pub best-from : (k : ℕ) → IsBest admits names k → best_among admits names ≡ Some k
  unfolding best_among
  best-from k b =
      let at : position_or_len unbeaten_test names ≡ k = position_or_len_is unbeaten_test names k [] (omega (arith, b.within))
      (λ j lt. elim (admits (name_at names j)) as (λ t. admits (name_at names j) ≡ t → (t && not (list_any (λ m. admits m && is_better m (name_at names j)) names)) ≡ false) [
        | true ↦ λ is. not_from_true _ (list_any_at (λ m. admits m && is_better m (name_at names j)) names k [] b.within (and_from _ _ b.admitted (b.first j lt is)))
        | false ↦ λ is. refl
      ] refl)
      (λ lt. and_from _ _ b.admitted (not_from_false _ (none_beats (name_at names k) b.unbeaten))) in
      rw at (rw (lt-ltb k (length names) b.within) refl)

  pub none-from : IsNone admits names → best_among admits names ≡ None
  unfolding best_among
  none-from none =
      let at : position_or_len unbeaten_test names ≡ length names = position_or_len_is unbeaten_test names (length names) [] (omega arith)
      (λ j lt. and_left _ _ (none j lt))
      (λ lt. absurd (omega (arith, lt))) in
      rw at (rw (le-ltb (length names) (length names) (omega arith)) refl)

-- the best of all is the first that is unbeaten
pub all-walked : (admits : List ℕ → Bool) (names : List (List ℕ)) → walk admits is_better names (length names) ≡ best_among admits names
all-walked admits names = by (walk admits is_better names (length names)) (walked admits is_better names better-order (length names))
  where
    by : (p : Option ℕ) → Stands admits is_better names (length names) p → p ≡ best_among admits names
    by None s = sym (none-from admits names s)
    by (Some k) s = sym (best-from admits names k (record { within = s.within; admitted = s.admitted; unbeaten = s.unbeaten; first = s.first }))

-- ---- the laws

pub best-law : (admits : List ℕ → Bool) (names : List (List ℕ)) (k : ℕ) → (best_among admits names ≡ Some k) ↔ IsBest admits names k
best-law admits names k = (by (walk admits is_better names (length names)) (all-walked admits names) (walked admits is_better names better-order (length names)), best-from admits names k)
  where
    by : (p : Option ℕ) → p ≡ best_among admits names → Stands admits is_better names (length names) p → best_among admits names ≡ Some k → IsBest admits names k
    by None e s is = cc
    by (Some l) e s is = let same : l ≡ k = (let some : Some l ≡ Some k = e ∙ is in cc) in
        subst (λ n. IsBest admits names n) same (record { within = s.within; admitted = s.admitted; unbeaten = s.unbeaten; first = s.first })

pub none-law : (admits : List ℕ → Bool) (names : List (List ℕ)) → (best_among admits names ≡ None) ↔ IsNone admits names
none-law admits names = (by (walk admits is_better names (length names)) (all-walked admits names) (walked admits is_better names better-order (length names)), none-from admits names)
  where
    by : (p : Option ℕ) → p ≡ best_among admits names → Stands admits is_better names (length names) p → best_among admits names ≡ None → IsNone admits names
    by None e s is = s
    by (Some l) e s is = let bad : Some l ≡ None = e ∙ is in cc
