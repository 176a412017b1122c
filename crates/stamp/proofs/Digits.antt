-- Digits at fixed places of a text.
use Rattle.std.proofs.Common.{◌≡◌, ℕ, zero, suc, ◌+◌, ◌-◌, ◌*◌, ◌/◌, ◌%◌, ◌<◌, ◌≤◌, true, false, leb, List, [], ◌∷◌, ◌++◌, length, get_or, drop, None, Some, refl, ap, ◌∙◌, arith, inl, inr}
use Rattle.std.proofs.lemmas.Bool.{cases_lt, and_parts, and_from, leb-true, le-leb, eqb-true}
use Rattle.std.proofs.lemmas.List.{drop_more}
use Rattle.std.proofs.lemmas.Option.{option_and_then_some}
use Rattle.std.specs.Option.{option_map}
use Rattle.num_text.specs.Numbers.{is_digit}
use Rattle.stamp.specs.Forms.{two, four}
use Rattle.stamp.specs.Reading.{digit_at, two_at, four_at, stands}
use Rattle.stamp.proofs.OptionLemmas.{map-some, if-some}

-- a byte that is there
pub piece : (text : List ℕ) (at b : ℕ) → get_or text at 0 ≡ b → 0 < b → drop at text ≡ b ∷ drop (at + 1) text
piece text at b e some =
    elim (cases_lt at (length text)) [
      | inl lt ↦ drop_more text at 0 lt ∙ ap (λ x. x ∷ drop (at + 1) text) e
      | inr le ↦ absurd (omega (arith, past text at le, e))
    ]
  where
    past : (xs : List ℕ) (k : ℕ) → length xs ≤ k → get_or xs k 0 ≡ 0
    past [] k le = refl
    past (x ∷ xs) zero le = absurd (omega arith)
    past (x ∷ xs) (suc k) le = past xs k (omega arith)

pub byte-piece : (text : List ℕ) (at b : ℕ) → stands text at b ≡ true → 0 < b → drop at text ≡ b ∷ drop (at + 1) text
byte-piece text at b e some = piece text at b (eqb-true _ _ e) some

pub digit-some : (text : List ℕ) (at n : ℕ) → digit_at text at ≡ Some n → (n < 10) × (get_or text at 0 ≡ 48 + n)
unfolding digit_at
digit-some text at n e =
    let found = if-some (is_digit (get_or text at 0)) (get_or text at 0 - 48) n e in
    let tests = and_parts (leb 48 (get_or text at 0)) (leb (get_or text at 0) 57) found.0 in
    let low : 48 ≤ get_or text at 0 = leb-true _ _ tests.0 in
    let high : get_or text at 0 ≤ 57 = leb-true _ _ tests.1 in
    let value : get_or text at 0 - 48 ≡ n = found.1 in
    (omega arith, omega arith)

pub digit-read : (text : List ℕ) (at n : ℕ) → get_or text at 0 ≡ 48 + n → n < 10 → digit_at text at ≡ Some n
unfolding digit_at
digit-read text at n e lt =
    let is : is_digit (48 + n) ≡ true = and_from (leb 48 (48 + n)) (leb (48 + n) 57) (le-leb _ _ (omega arith)) (le-leb _ _ (omega arith)) in
    let value : 48 + n - 48 ≡ n = omega arith in
    rw (e, is) (ap Some value)

-- no letter is a digit
pub digit-none : (text : List ℕ) (at : ℕ) → 57 < get_or text at 0 → digit_at text at ≡ None
unfolding digit_at
digit-none text at gt =
    let is : is_digit (get_or text at 0) ≡ false = grind arith in
    rw is refl

pub two-some : (text : List ℕ) (at n : ℕ) → two_at text at ≡ Some n → (n < 100) × (get_or text at 0 ≡ 48 + n / 10) × (get_or text (at + 1) 0 ≡ 48 + n % 10)
unfolding two_at
two-some text at n e =
    option_and_then_some (λ tens. option_map (λ ones. tens * 10 + ones) (digit_at text (at + 1))) (digit_at text at) n e (λ tens first more.
    map-some (λ ones. tens * 10 + ones) (digit_at text (at + 1)) n more (λ ones second is.
    let t = digit-some text at tens first in
    let o = digit-some text (at + 1) ones second in
    both tens ones n t.0 o.0 is _ _ t.1 o.1))
  where
    both : (tens ones n : ℕ) → tens < 10 → ones < 10 → tens * 10 + ones ≡ n → (a b : ℕ) → a ≡ 48 + tens → b ≡ 48 + ones → (n < 100) × (a ≡ 48 + n / 10) × (b ≡ 48 + n % 10)
    both tens ones n lt less e a b f g =
        let quotient : n / 10 ≡ tens = omega arith in
        let last : n % 10 ≡ ones = omega arith in
        (omega arith, omega arith, omega arith)

pub two-read : (text : List ℕ) (at n : ℕ) → get_or text at 0 ≡ 48 + n / 10 → get_or text (at + 1) 0 ≡ 48 + n % 10 → n < 100 → two_at text at ≡ Some n
unfolding two_at
two-read text at n e f lt =
    let value : n / 10 * 10 + n % 10 ≡ n = omega arith in
    rw (digit-read text at (n / 10) e (omega arith), digit-read text (at + 1) (n % 10) f (omega arith)) (ap Some value)

pub two-piece : (text : List ℕ) (at n : ℕ) → two_at text at ≡ Some n → drop at text ≡ two n ++ drop (at + 2) text
two-piece text at n e =
    let s = two-some text at n e in
    piece text at (48 + n / 10) s.1 (omega arith)
    ∙ ap (λ r. (48 + n / 10) ∷ r) (piece text (at + 1) (48 + n % 10) s.2 (omega arith) ∙ ap (λ k. (48 + n % 10) ∷ drop k text) (further at))
  where
    further : (at : ℕ) → at + 1 + 1 ≡ at + 2
    further at = omega arith

pub two-below : (text : List ℕ) (at n : ℕ) → two_at text at ≡ Some n → n < 100
two-below text at n e = (two-some text at n e).0

pub four-piece : (text : List ℕ) (at n : ℕ) → four_at text at ≡ Some n → (n < 10000) × (drop at text ≡ four n ++ drop (at + 4) text)
unfolding four_at
four-piece text at n e =
    option_and_then_some (λ high. option_map (λ low. high * 100 + low) (two_at text (at + 2))) (two_at text at) n e (λ high first more.
    map-some (λ low. high * 100 + low) (two_at text (at + 2)) n more (λ low second is.
    both high low n (two-below text at high first) (two-below text (at + 2) low second) is (two-piece text at high first) (two-piece text (at + 2) low second)))
  where
    both : (high low n : ℕ) → high < 100 → low < 100 → high * 100 + low ≡ n → drop at text ≡ two high ++ drop (at + 2) text → drop (at + 2) text ≡ two low ++ drop (at + 2 + 2) text → (n < 10000) × (drop at text ≡ four n ++ drop (at + 4) text)
    both high low n lt less is f g =
        let h : n / 100 ≡ high = omega arith in
        let l : n % 100 ≡ low = omega arith in
        let k : at + 2 + 2 ≡ at + 4 = omega arith in
        (omega arith, rw (h, l, ← k) (f ∙ ap (λ r. two high ++ r) g))

pub four-read : (text : List ℕ) (at n : ℕ) → get_or text at 0 ≡ 48 + n / 100 / 10 → get_or text (at + 1) 0 ≡ 48 + n / 100 % 10 → get_or text (at + 2) 0 ≡ 48 + n % 100 / 10 → get_or text (at + 2 + 1) 0 ≡ 48 + n % 100 % 10 → n < 10000 → four_at text at ≡ Some n
unfolding four_at
four-read text at n a b c d lt =
    let value : n / 100 * 100 + n % 100 ≡ n = omega arith in
    rw (two-read text at (n / 100) a b (omega arith), two-read text (at + 2) (n % 100) c d (omega arith)) (ap Some value)
