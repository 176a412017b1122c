-- Reading digits up to the greatest u64.
use Rattle.std.proofs.Common.{◌≡◌, ℕ, ◌+◌, ◌-◌, ◌*◌, ◌^◌, ◌<◌, min, true, false, List, length, get_or, drop, sym, ◌∙◌, ap, arith, inl, inr}
use Rattle.std.proofs.lemmas.Bool.{cases_lt}
use Rattle.num_text.specs.Numbers.{is_digit, value_after, decimal}
use Rattle.num_text.proofs.NumberLemmas.{value-more, value-ends, value-ge}
use Rattle.num_text.proofs.Decimal.{decimal-numeral}

-- digits behind a number that counts as the greatest one make none that is smaller
pub capped-more : (m n : ℕ) (bs : List ℕ) → m ≡ min n (2 ^ 64 - 1) → min (value_after m bs) (2 ^ 64 - 1) ≡ min (value_after n bs) (2 ^ 64 - 1)
capped-more m n bs is =
    elim (cases_lt n (2 ^ 64 - 1)) [
      | inl lt ↦ (let same : m ≡ n = omega (arith, is, lt) in ap (λ (k : ℕ). min (value_after k bs) (2 ^ 64 - 1)) same)
      | inr le ↦ (let here : m ≡ 2 ^ 64 - 1 = omega (arith, is, le) in omega (arith, here, le, value-ge m bs, value-ge n bs))
    ]

capped-sum : (value tens digit n : ℕ) → tens ≡ min (value * 10) (2 ^ 64 - 1) → n ≡ min (tens + digit) (2 ^ 64 - 1) → n ≡ min (value * 10 + digit) (2 ^ 64 - 1)
capped-sum value tens digit n is sum = omega (arith, is, sum)

-- one digit more
pub capped-step : (text : List ℕ) (i value tens digit n : ℕ) → i < length text → is_digit (get_or text i 0) ≡ true → tens ≡ min (value * 10) (2 ^ 64 - 1) → digit ≡ get_or text i 0 - 48 → n ≡ min (tens + digit) (2 ^ 64 - 1)
    → min (value_after n (drop (i + 1) text)) (2 ^ 64 - 1) ≡ min (value_after value (drop i text)) (2 ^ 64 - 1)
capped-step text i value tens digit n lt is tens-is digit-is n-is =
    let sum = capped-sum value tens digit n tens-is n-is in
    let here = sum ∙ ap (λ (d : ℕ). min (value * 10 + d) (2 ^ 64 - 1)) digit-is in
    capped-more n (value * 10 + (get_or text i 0 - 48)) (drop (i + 1) text) here ∙ sym (ap (λ (k : ℕ). min k (2 ^ 64 - 1)) (value-more text i value lt is))

capped-is : (value n m : ℕ) → value < 2 ^ 64 → n ≡ value → min n (2 ^ 64 - 1) ≡ m → value ≡ m
capped-is value n m fits is same = omega (arith, fits, is, same)

pub capped-end : (text : List ℕ) (i value m : ℕ) → value < 2 ^ 64 → (i < length text → is_digit (get_or text i 0) ≡ false) → min (value_after value (drop i text)) (2 ^ 64 - 1) ≡ m → value ≡ m
capped-end text i value m fits ends same = capped-is value (value_after value (drop i text)) m fits (value-ends text i value ends) same

-- the digits of a number below the greatest one give it
pub decimal-again : (ds : List ℕ) (v n : ℕ) → v ≡ min (value_after 0 ds) (2 ^ 64 - 1) → ds ≡ decimal n → n < 2 ^ 64 - 1 → v ≡ n
decimal-again ds v n is same small =
    let value : value_after 0 ds ≡ n = ap (λ (l : List ℕ). value_after 0 l) same ∙ sym (decimal-numeral n).value in
    omega (arith, is, value, small)
