-- Digits at a fixed number of places.
use Rattle.std.proofs.Common.{◌≡◌, ℕ, zero, suc, ◌+◌, ◌-◌, ◌*◌, ◌/◌, ◌%◌, ◌^◌, ◌<◌, true, List, ◌∷◌, length, refl, sym, ap, ◌∙◌, arith}
use Rattle.std.proofs.Math.Nat.{pow-suc, div-div-eq-div-mul, div-eq_of_lt}
use Rattle.num_text.specs.Numbers.{is_digit, value_after, AllDigits, IsNumeral}
use Rattle.num_text.proofs.NumberLemmas.{value-nil}
use Rattle.patch_gen.specs.Texts.{in_places}

pub width : (w n : ℕ) → length (in_places w n) ≡ w
width zero n = refl
width (suc w) n = ap suc (width w n)

digit : (d : ℕ) → d < 10 → is_digit (48 + d) ≡ true
digit d lt = grind arith

digits : (w n : ℕ) → AllDigits (in_places w n)
digits zero n = tt
digits (suc w) n = (digit (n / 10 ^ w % 10) (omega arith), digits w n)

one-more : (k d : ℕ) (ds : List ℕ) → d < 10 → value_after k ((48 + d) ∷ ds) ≡ value_after (k * 10 + d) ds
unfolding value_after
one-more k d ds lt =
    let back : 48 + d - 48 ≡ d = omega arith in
    rw (digit d lt) (ap (λ e. value_after (k * 10 + e) ds) back)

-- what stands before the places, and then the digits at them, write the number
value : (w n : ℕ) → value_after (n / 10 ^ w) (in_places w n) ≡ n
value zero n = let whole : n / 1 ≡ n = omega arith in value-nil (n / 1) ∙ whole
value (suc w) n =
    let front : n / 10 ^ suc w ≡ n / 10 ^ w / 10 = ap (λ p. n / p) (pow-suc 10 w) ∙ sym (div-div-eq-div-mul n (10 ^ w) 10) in
    let both : n / 10 ^ w / 10 * 10 + n / 10 ^ w % 10 ≡ n / 10 ^ w = omega arith in
    one-more (n / 10 ^ suc w) (n / 10 ^ w % 10) (in_places w n) (omega arith) ∙ ap (λ k. value_after (k * 10 + n / 10 ^ w % 10) (in_places w n)) front ∙ ap (λ k. value_after k (in_places w n)) both ∙ value w n

pub numeral : (w n : ℕ) → 0 < w → n < 10 ^ w → IsNumeral (in_places w n) n
numeral w n some fits = record {
  some = omega (arith, width w n);
  digits = digits w n;
  value = sym (ap (λ k. value_after k (in_places w n)) (sym (div-eq_of_lt fits)) ∙ value w n);
}
