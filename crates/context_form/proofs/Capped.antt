-- A number that was read with its cap, and what it is without.
use Rattle.std.proofs.Common.{◌≡◌, ℕ, ◌^◌, min, Bool, true, false, cond, eqb, List, [], ◌∷◌, Option, None, Some, refl, sym, ap, ◌∙◌}
use Rattle.std.specs.Prelude.{nat_lt}
use Rattle.std.proofs.lemmas.Option.{same_Some}
use Rattle.hunk_core.specs.LineTests.{after}
use Rattle.hunk_core.proofs.TextLemmas.{after-takes}
use Rattle.num_text.specs.Numbers.{is_digit, value_after, number_at, after_digits}
use Rattle.num_text.specs.NumberRanges.{capped, capped_at}
use Rattle.context_form.specs.Ranges.{unblanked, with_later, behind_number, from_number, spaced_at}

record Read (bytes : List ℕ) (first : ℕ) (rest : List ℕ) : Type 0 where
  value : ℕ
  number : number_at bytes ≡ Some (value, rest)
  least : min value (2 ^ 32) ≡ first
  is : value ≡ value_after 0 bytes

by-cap : (n first : ℕ) (r rest : List ℕ) → ◌≡◌ {A = Option (ℕ × List ℕ)} (Some (min n (2 ^ 32), r)) (Some (first, rest)) → (min n (2 ^ 32) ≡ first) × (r ≡ rest)
by-cap n first r rest e = (ap (λ (x : ℕ × List ℕ). x.0) (same_Some _ _ e), ap (λ (x : ℕ × List ℕ). x.1) (same_Some _ _ e))

read-as : (bytes : List ℕ) (first : ℕ) (rest : List ℕ) → capped_at bytes ≡ Some (first, rest) → Read bytes first rest
read-as [] first rest e = absurd cc
read-as (b ∷ bs) first rest e = by (is_digit b) refl e
  where
    by : (d : Bool) → is_digit b ≡ d → capped (cond d (Some (value_after 0 (b ∷ bs), after_digits bs)) None) ≡ Some (first, rest) → Read (b ∷ bs) first rest
    by false is h = absurd cc
    by true is h =
        let both = by-cap (value_after 0 (b ∷ bs)) first (after_digits bs) rest h in
        record { value = value_after 0 (b ∷ bs); number = rw is (ap (λ r. Some (value_after 0 (b ∷ bs), r)) both.1); least = both.0; is = refl }

by-none : (o : Option (ℕ × List ℕ)) → capped o ≡ None → o ≡ None
by-none None e = refl
by-none (Some n) e = absurd cc

-- ---- a range

pub spaced-none : (bytes front : List ℕ) → front ≡ unblanked bytes → capped_at front ≡ None → spaced_at bytes ≡ None
unfolding spaced_at
spaced-none bytes front is e = ap (λ (x : List ℕ). from_number (number_at x)) (sym is) ∙ ap from_number (by-none (number_at front) e)

-- what is known behind the first number
pub record BehindFirst (bytes front rest : List ℕ) (first : ℕ) (behind : List ℕ) : Type 0 where
  pub front_is : front ≡ unblanked bytes
  pub read : capped_at front ≡ Some (first, rest)
  pub behind_is : behind ≡ unblanked rest

module _ (bytes front rest : List ℕ) (first : ℕ) (behind : List ℕ) (k : BehindFirst bytes front rest first behind) where
  goes : (r : Read front first rest) → spaced_at bytes ≡ behind_number r.value behind
  unfolding spaced_at
  goes r = ap (λ (x : List ℕ). from_number (number_at x)) (sym k.front_is) ∙ ap from_number r.number ∙ ap (behind_number r.value) (sym k.behind_is)

  no-comma : (b : List ℕ) → after (44 ∷ []) b ≡ None → (v : ℕ) → min v (2 ^ 32) ≡ first → behind_number v b ≡ Some (record { first = first; last = first; is_single = true; is_turned = false }, b)
  unfolding after
  no-comma [] none v e = rw e refl
  no-comma (c ∷ cs) none v e = by (eqb c 44) refl none
    where
      by : (w : Bool) → eqb c 44 ≡ w → cond w (Some cs) None ≡ None → cond w (with_later v (number_at (unblanked cs))) (Some (record { first = min v (2 ^ 32); last = min v (2 ^ 32); is_single = true; is_turned = false }, c ∷ cs)) ≡ Some (record { first = first; last = first; is_single = true; is_turned = false }, c ∷ cs)
      by true is none = absurd cc
      by false is none = rw e refl

  pub single-read : after (44 ∷ []) behind ≡ None → spaced_at bytes ≡ Some (record { first = first; last = first; is_single = true; is_turned = false }, behind)
  single-read none = let r = read-as front first rest k.read in goes r ∙ no-comma behind none r.value r.least

  module _ (tail : List ℕ) (comma : after (44 ∷ []) behind ≡ Some tail) (more : List ℕ) (more_is : more ≡ unblanked tail) where
    later : (r : Read front first rest) → spaced_at bytes ≡ with_later r.value (number_at more)
    later r = goes r ∙ ap (behind_number r.value) (after-takes (44 ∷ []) behind tail comma) ∙ ap (λ (x : List ℕ). with_later r.value (number_at x)) (sym more_is)

    pub later-none : capped_at more ≡ None → spaced_at bytes ≡ None
    later-none e = let r = read-as front first rest k.read in later r ∙ ap (with_later r.value) (by-none (number_at more) e)

    pub later-read : (last : ℕ) (left end : List ℕ) (turned : Bool) → capped_at more ≡ Some (last, left) → end ≡ unblanked left → turned ≡ nat_lt (value_after 0 more) (value_after 0 front)
        → spaced_at bytes ≡ Some (record { first = first; last = last; is_single = false; is_turned = turned }, end)
    later-read last left end turned e is t =
        let r = read-as front first rest k.read in
        let s = read-as more last left e in
        later r ∙ ap (with_later r.value) s.number ∙ rw (r.least, s.least, r.is, s.is, sym t, is) refl
