-- Two numbers compared digit by digit, aligned at their ends.
use Rattle.std.proofs.Common.{◌≡◌, ◌≢◌, ℕ, zero, suc, ◌+◌, ◌-◌, ◌*◌, ◌<◌, ◌≤◌, Bool, true, false, cond, ltb, List, [], ◌∷◌, length, get_or, drop, refl, sym, ap, subst, ◌∙◌, arith, inl, inr}
use Rattle.std.proofs.lemmas.Bool.{cases_lt, ltb-true, ltb-false, leb-true, lt-ltb, le-ltb, and_parts}
use Rattle.std.proofs.lemmas.List.{length-drop}
use Rattle.num_text.specs.Numbers.{is_digit, value_after, after_digits}
use Rattle.num_text.specs.NumberRanges.{place_value}
use Rattle.num_text.proofs.NumberLemmas.{digit-step, rest-step, rest-stop, rest-nil, rest-more, value-stop, value-nil, value-ge, value-more}

-- the digits at the front go up to this end
pub record RunsTo (a : List ℕ) (end : ℕ) : Type 0 where
  pub high : end ≤ length a
  pub rest : drop end a ≡ after_digits a

no-run : (b : ℕ) (bs : List ℕ) (e : ℕ) → e ≤ length bs → drop e bs ≡ b ∷ bs → ⊥
no-run b bs e le same = omega (arith, ap length same, length-drop e bs)

pub digits-inside : (a : List ℕ) (end k : ℕ) → end ≤ length a → drop end a ≡ after_digits a → k < end → is_digit (get_or a k 0) ≡ true
digits-inside [] end k le same lt = absurd (omega arith)
digits-inside (b ∷ bs) zero k le same lt = absurd (omega arith)
digits-inside (b ∷ bs) (suc e) k le same lt = by (is_digit b) refl (λ is j less. digits-inside bs e j (omega arith) (same ∙ rest-step b bs is) less)
  where
    inner : (is_digit b ≡ true) → ((j : ℕ) → j < e → is_digit (get_or bs j 0) ≡ true) → (j : ℕ) → j < suc e → is_digit (get_or (b ∷ bs) j 0) ≡ true
    inner is more zero less = is
    inner is more (suc j) less = more j (omega arith)

    by : (v : Bool) → is_digit b ≡ v → ((is_digit b ≡ true) → (j : ℕ) → j < e → is_digit (get_or bs j 0) ≡ true) → is_digit (get_or (b ∷ bs) k 0) ≡ true
    by true is more = inner is (more is) k lt
    by false is more = absurd (no-run b bs e (omega arith) (same ∙ rest-stop b bs is))

pub digit-low : (b : ℕ) → is_digit b ≡ true → 48 ≤ b
digit-low b is = leb-true 48 b (and_parts _ _ is).0

digit-high : (b : ℕ) → is_digit b ≡ true → b ≤ 57
digit-high b is = leb-true b 57 (and_parts _ _ is).1

rest-shorter : (ls : List ℕ) → length (after_digits ls) ≤ length ls
rest-shorter [] = rw rest-nil (omega arith)
rest-shorter (a ∷ ls) = by (is_digit a) refl (rest-shorter ls)
  where
    by : (v : Bool) → is_digit a ≡ v → length (after_digits ls) ≤ length ls → length (after_digits (a ∷ ls)) ≤ length (a ∷ ls)
    by true is more = rw (rest-step a ls is) (omega arith)
    by false is more = rw (rest-stop a ls is) (omega arith)

-- a smaller number in front, and no more digits behind it
below-on : (ls bs : List ℕ) (u v : ℕ) → u < v → length ls + length (after_digits bs) ≤ length bs + length (after_digits ls) → value_after u ls < value_after v bs
below-on [] bs u v lt few = rw (value-nil u) (omega (arith, value-ge v bs))
below-on (a ∷ ls) [] u v lt few = by (is_digit a) refl
  where
    by : (d : Bool) → is_digit a ≡ d → value_after u (a ∷ ls) < value_after v []
    by true is = absurd (let e : length (after_digits (a ∷ ls)) ≡ length (after_digits ls) = ap length (rest-step a ls is) in omega (arith, few, rest-shorter ls))
    by false is = rw (value-stop u a ls is, value-nil v) lt
below-on (a ∷ ls) (b ∷ bs) u v lt few = by (is_digit a) refl (is_digit b) refl (λ low less. below-on ls bs (u * 10 + (a - 48)) (v * 10 + (b - 48)) low less)
  where
    by : (d : Bool) → is_digit a ≡ d → (e : Bool) → is_digit b ≡ e → (u * 10 + (a - 48) < v * 10 + (b - 48) → length ls + length (after_digits bs) ≤ length bs + length (after_digits ls) → value_after (u * 10 + (a - 48)) ls < value_after (v * 10 + (b - 48)) bs) → value_after u (a ∷ ls) < value_after v (b ∷ bs)
    by false is e other more = rw (value-stop u a ls is) (omega (arith, value-ge v (b ∷ bs)))
    by true is false other more = absurd (
        let x : length (after_digits (a ∷ ls)) ≡ length (after_digits ls) = ap length (rest-step a ls is) in
        let y : length (after_digits (b ∷ bs)) ≡ length (b ∷ bs) = ap length (rest-stop b bs other) in
        omega (arith, few, rest-shorter ls))
    by true is true other more =
        let x : length (after_digits (a ∷ ls)) ≡ length (after_digits ls) = ap length (rest-step a ls is) in
        let y : length (after_digits (b ∷ bs)) ≡ length (after_digits bs) = ap length (rest-step b bs other) in
        let small : a ≤ 57 = digit-high a is in
        let large : 48 ≤ b = digit-low b other in
        rw (digit-step u a ls is, digit-step v b bs other) (more (omega (arith, lt)) (omega (arith, few)))

-- what a comparison knows of one number when so many digits are left: what stands before them
pub record Side (a : List ℕ) (end far front : ℕ) : Type 0 where
  pub value : value_after 0 a ≡ value_after front (drop (end - far) a)
  pub none : end < far → front ≡ 0

pub side-begins : (a : List ℕ) (end far : ℕ) → end ≤ far → Side a end far 0
side-begins a end far le = let z : end - far ≡ 0 = omega arith in record { value = rw z refl; none = λ _. refl }

pub side-step : (a : List ℕ) (end far front : ℕ) → RunsTo a end → 0 < far → Side a end far front → Side a end (far - 1) (front * 10 + place_value a end far)
side-step a end far front runs some s = by (ltb end far) refl
  where
    by : (v : Bool) → ltb end far ≡ v → Side a end (far - 1) (front * 10 + cond v 0 (get_or a (end - far) 0 - 48))
    by true is =
        let early = ltb-true end far is in
        let zero_front : front ≡ 0 = s.none early in
        let x : end - (far - 1) ≡ 0 = omega (arith, early) in
        let y : end - far ≡ 0 = omega (arith, early) in
        record { value = s.value ∙ rw (x, y, zero_front) refl; none = λ _. rw zero_front refl }
    by false is =
        let late = ltb-false end far is in
        let inside : is_digit (get_or a (end - far) 0) ≡ true = digits-inside a end (end - far) runs.high runs.rest (omega (arith, late, some)) in
        let next : end - far + 1 ≡ end - (far - 1) = omega (arith, late, some) in
        record {
          value = s.value ∙ value-more a (end - far) front (omega (arith, late, some, runs.high)) inside ∙ ap (λ k. value_after (front * 10 + (get_or a (end - far) 0 - 48)) (drop k a)) next;
          none = λ lt. absurd (omega (arith, late, lt));
        }

rest-behind : (a : List ℕ) (end k : ℕ) → RunsTo a end → k ≤ end → after_digits (drop k a) ≡ after_digits a
rest-behind a end zero runs le = refl
rest-behind a end (suc k) runs le =
    let here : is_digit (get_or a k 0) ≡ true = digits-inside a end k runs.high runs.rest (omega arith) in
    let one : suc k ≡ k + 1 = omega arith in
    rw one (sym (rest-more a k (omega (arith, runs.high)) here) ∙ rest-behind a end k runs (omega arith))

-- how many digits are left
left-over : (a : List ℕ) (end k : ℕ) → RunsTo a end → k ≤ end → length (drop k a) ≡ (end - k) + length (after_digits (drop k a))
left-over a end k runs le =
    let same : length (after_digits (drop k a)) ≡ length (drop end a) = ap length (rest-behind a end k runs le ∙ sym runs.rest) in
    omega (arith, same, length-drop k a, length-drop end a, runs.high)

some-place : (a : List ℕ) (end far : ℕ) → 0 < place_value a end far → far ≤ end
some-place a end far some = by (ltb end far) refl some
  where
    by : (v : Bool) → ltb end far ≡ v → 0 < cond v 0 (get_or a (end - far) 0 - 48) → far ≤ end
    by true is lt = absurd (omega (arith, lt))
    by false is lt = ltb-false end far is

-- the first digits that differ tell which number is below
pub differs : (a b : List ℕ) (end other far front : ℕ) → RunsTo a end → RunsTo b other → 0 < far → Side a end far front → Side b other far front → place_value a end far < place_value b other far → value_after 0 a < value_after 0 b
differs a b end other far front runs others some s t lt =
    let x = side-step a end far front runs some s in
    let y = side-step b other far front others some t in
    let there : far ≤ other = some-place b other far (omega (arith, lt)) in
    let m = left-over a end (end - (far - 1)) runs (omega arith) in
    let n = left-over b other (other - (far - 1)) others (omega arith) in
    let few : end - (end - (far - 1)) ≤ other - (other - (far - 1)) = omega (arith, there) in
    rw (x.value, y.value) (below-on (drop (end - (far - 1)) a) (drop (other - (far - 1)) b) (front * 10 + place_value a end far) (front * 10 + place_value b other far) (omega (arith, lt)) (omega (arith, m, n, few)))

-- what two numbers have in common, so many digits before their ends
pub record Agree (a b : List ℕ) (end other far : ℕ) : Type 0 where
  pub front : ℕ
  pub one : Side a end far front
  pub two : Side b other far front

pub agree-begins : (a b : List ℕ) (end other far : ℕ) → end ≤ far → other ≤ far → Agree a b end other far
agree-begins a b end other far le le2 = record { front = 0; one = side-begins a end far le; two = side-begins b other far le2 }

pub agree-on : (a b : List ℕ) (end other far : ℕ) → RunsTo a end → RunsTo b other → 0 < far → place_value a end far ≡ place_value b other far → Agree a b end other far → Agree a b end other (far - 1)
agree-on a b end other far runs others some same g = record {
  front = g.front * 10 + place_value a end far;
  one = side-step a end far g.front runs some g.one;
  two = subst (λ d. Side b other (far - 1) (g.front * 10 + d)) (sym same) (side-step b other far g.front others some g.two);
}

stops : (front : ℕ) (xs : List ℕ) → value_after front (after_digits xs) ≡ front
stops front [] = rw rest-nil (value-nil front)
stops front (x ∷ xs) = by (is_digit x) refl (stops front xs)
  where
    by : (v : Bool) → is_digit x ≡ v → value_after front (after_digits xs) ≡ front → value_after front (after_digits (x ∷ xs)) ≡ front
    by true is more = rw (rest-step x xs is) more
    by false is more = rw (rest-stop x xs is) (value-stop front x xs is)

ends-here : (a : List ℕ) (end k front : ℕ) → RunsTo a end → k ≡ end → value_after front (drop k a) ≡ front
ends-here a end k front runs is = rw (is, runs.rest) (stops front a)

-- numbers without a digit that differs are one
pub agree-whole : (a b : List ℕ) (end other : ℕ) → RunsTo a end → RunsTo b other → Agree a b end other 0 → ltb (value_after 0 a) (value_after 0 b) ≡ false
agree-whole a b end other runs others g =
    let x : value_after 0 a ≡ g.front = g.one.value ∙ ends-here a end (end - 0) g.front runs (omega arith) in
    let y : value_after 0 b ≡ g.front = g.two.value ∙ ends-here b other (other - 0) g.front others (omega arith) in
    le-ltb _ _ (omega (arith, x, y))

-- which of two digits that differ is the smaller tells which number is
pub decided : (a b : List ℕ) (end other far : ℕ) (x y : ℕ) → RunsTo a end → RunsTo b other → 0 < far → Agree a b end other far → x ≡ place_value a end far → y ≡ place_value b other far → x ≢ y → ltb x y ≡ ltb (value_after 0 a) (value_after 0 b)
decided a b end other far x y runs others some g is is2 ne =
    elim (cases_lt x y) [
      | inl lt ↦ (let less : value_after 0 a < value_after 0 b = differs a b end other far g.front runs others some g.one g.two (omega (arith, is, is2, lt)) in rw (lt-ltb x y lt, lt-ltb _ _ less) refl)
      | inr ge ↦ (let more : value_after 0 b < value_after 0 a = differs b a other end far g.front others runs some g.two g.one (omega (arith, is, is2, ge, ne)) in rw (le-ltb x y ge, le-ltb (value_after 0 a) (value_after 0 b) (omega (arith, more))) refl)
    ]
