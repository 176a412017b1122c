-- A range read number by number.
use Rattle.std.proofs.Common.{◌≡◌, ℕ, ◌+◌, ◌-◌, ◌*◌, ◌^◌, ◌<◌, ◌≤◌, min, Bool, true, false, cond, List, [], ◌∷◌, length, get_or, drop, Option, None, Some, Fits, w64, refl, sym, ap, subst, ◌∙◌, arith}
use Rattle.std.specs.Prelude.{nat_lt}
use Rattle.std.proofs.lemmas.Option.{same_Some}
use Rattle.num_text.specs.Numbers.{is_digit, value_after, number_at, after_digits, IsNumberAt}
use Rattle.num_text.specs.NumberRanges.{capped, capped_at, with_second, behind_first, from_first, range_at}
use Rattle.num_text.proofs.NumberLemmas.{no-number}

-- ---- a number with its cap

least : (n : ℕ) → n < 2 ^ 32 → min n (2 ^ 32) ≡ n
least n small = omega (arith, small)

pub capped-value : (bytes : List ℕ) (value end n : ℕ) → IsNumberAt bytes 0 value end → n ≡ value → capped_at bytes ≡ Some (n, drop end bytes)
capped-value bytes value end n at e = ap capped at.number ∙ ap (λ k. Some (k, drop end bytes)) (least value at.fits ∙ sym e)

pub value-small : (n value : ℕ) → value < 2 ^ 32 → n ≡ value → n ≤ 2 ^ 32
value-small n value small e = omega (arith, small, e)

-- a number that was read with its cap: what it is without
record Read (bytes : List ℕ) (first : ℕ) (rest : List ℕ) : Type 0 where
  pub value : ℕ
  pub number : number_at bytes ≡ Some (value, rest)
  pub least : min value (2 ^ 32) ≡ first
  pub is : value ≡ value_after 0 bytes

by-cap : (n first : ℕ) (r rest : List ℕ) → ◌≡◌ {A = Option (ℕ × List ℕ)} (Some (min n (2 ^ 32), r)) (Some (first, rest)) → (min n (2 ^ 32) ≡ first) × (r ≡ rest)
by-cap n first r rest e = (ap (λ (x : ℕ × List ℕ). x.0) (same_Some _ _ e), ap (λ (x : ℕ × List ℕ). x.1) (same_Some _ _ e))

read-as : (bytes : List ℕ) (first : ℕ) (rest : List ℕ) → capped_at bytes ≡ Some (first, rest) → Read bytes first rest
read-as [] first rest e = absurd cc
read-as (b ∷ bs) first rest e = by (is_digit b) refl e
  where
    by : (d : Bool) → is_digit b ≡ d → capped (cond d (Some (value_after 0 (b ∷ bs), after_digits bs)) None) ≡ Some (first, rest) → Read (b ∷ bs) first rest
    by false is h = absurd cc
    by true is h =
        let both = by-cap (value_after 0 (b ∷ bs)) first (after_digits bs) rest h in
        record { value = value_after 0 (b ∷ bs); number = rw is (ap (λ r. Some (value_after 0 (b ∷ bs), r)) both.1); least = both.0; is = refl }

-- ---- ranges

by-none : (o : Option (ℕ × List ℕ)) → capped o ≡ None → o ≡ None
by-none None e = refl
by-none (Some n) e = absurd cc

pub range-none : (bytes : List ℕ) → capped_at bytes ≡ None → range_at bytes ≡ None
unfolding range_at
range-none bytes e = ap from_first (by-none (number_at bytes) e)

comma-first : (rest : List ℕ) → 1 ≤ length rest → get_or rest 0 0 ≡ 44 → rest ≡ 44 ∷ drop 1 rest
comma-first [] some e = absurd (omega (arith, some))
comma-first (b ∷ bs) some e = ap (λ c. c ∷ bs) e

module _ (bytes rest : List ℕ) (first : ℕ) (read : capped_at bytes ≡ Some (first, rest)) (some : 1 ≤ length rest) (comma : get_or rest 0 0 ≡ 44) where
  behind-comma : (r : Read bytes first rest) → range_at bytes ≡ with_second r.value (number_at (drop 1 rest))
  unfolding range_at
  behind-comma r = ap from_first r.number ∙ ap (behind_first r.value) (comma-first rest some comma)

  pub second-none : capped_at (drop 1 rest) ≡ None → range_at bytes ≡ None
  second-none e =
      let r = read-as bytes first rest read in
      behind-comma r ∙ ap (with_second r.value) (by-none (number_at (drop 1 rest)) e)

  pub second-read : (last : ℕ) (tail : List ℕ) (turned : Bool) → capped_at (drop 1 rest) ≡ Some (last, tail) → turned ≡ nat_lt (value_after 0 (drop 1 rest)) (value_after 0 bytes)
      → range_at bytes ≡ Some (record { first = first; last = last; is_single = false; is_turned = turned }, tail)
  second-read last tail turned e t =
      let r = read-as bytes first rest read in
      let s = read-as (drop 1 rest) last tail e in
      behind-comma r ∙ ap (with_second r.value) s.number ∙ rw (r.least, s.least, r.is, s.is, sym t) refl

-- ---- the loop over the digits

pub nothing-there : (text : List ℕ) (at end : ℕ) → end ≡ at → (end < length text → is_digit (get_or text end 0) ≡ false) → number_at (drop at text) ≡ None
nothing-there text at end e stops = no-number text at (subst (λ n. n < length text → is_digit (get_or text n 0) ≡ false) e stops)

pub past-end : (end long : ℕ) → long ≤ end → end < long → ⊥
past-end end long le lt = omega (arith, le, lt)

pub one-behind : (at end : ℕ) → at ≤ end → at ≤ end + 1
one-behind at end le = omega (arith, le)

pub one-within : (end long : ℕ) → end < long → end + 1 ≤ long
one-within end long lt = omega (arith, lt)

pub nearer : (end long : ℕ) → end < long → long - (end + 1) < long - end
nearer end long lt = omega (arith, lt)

pub not-over : (n most : ℕ) → n ≤ most → most ≡ 4294967295 → n < 2 ^ 32
not-over n most le e = omega (arith, le, e)

pub tens-fit : (n : ℕ) → n < 2 ^ 32 → Fits w64 (n * 10)
tens-fit n small = omega (arith, small)

pub one-less : (n : ℕ) → 0 < n → n - 1 < n
one-less n some = omega (arith, some)
