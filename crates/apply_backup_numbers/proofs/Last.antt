-- The last number is the greatest that is there.
use Rattle.std.proofs.Common.{◌≡◌, ◌⊎◌, inl, inr, ℕ, zero, suc, ◌-◌, ◌^◌, ◌<◌, ◌≤◌, List, Bool, true, false, cond, is_some, refl, sym, ◌∙◌, ap, arith}
use Rattle.std.proofs.lemmas.Bool.{false≢true, cases_lt}
use Rattle.std.specs.FinMap.{get}
use Rattle.outside.specs.Files.{Files}
use Rattle.outside.specs.Numbered.{numbered, IsLastNumber}
use Rattle.apply_backup_numbers.specs.Numbering.{greatest_below, last_number}

-- none below the bound passes but up to n, and n does or is 0
greatest-is : (test : ℕ → Bool) (bound n : ℕ) → (n ≡ 0) ⊎ ((n < bound) × (test n ≡ true)) → ((m : ℕ) → m < bound → test m ≡ true → m ≤ n) → greatest_below test bound ≡ n
unfolding greatest_below
greatest-is test zero n here above = elim here [ inl none ↦ sym none | inr some ↦ absurd (omega (arith, some.0)) ]
greatest-is test (suc k) n here above = by (test k) refl (λ lower below. greatest-is test k n lower below)
  where
    lower : test k ≡ false → (n ≡ 0) ⊎ ((n < k) × (test n ≡ true))
    lower is = elim here [
      | inl none ↦ inl none
      | inr some ↦ elim (cases_lt n k) [
        | inl lt ↦ inr (lt, some.1)
        | inr le ↦ (let same : n ≡ k = omega (arith, le, some.0) in absurd (false≢true (sym is ∙ ap test (sym same) ∙ some.1)))
      ]
    ]

    higher : test k ≡ true → k ≡ n
    higher is = elim here [
      | inl none ↦ (let le : k ≤ n = above k (omega arith) is in omega (arith, le, none))
      | inr some ↦ (let le : k ≤ n = above k (omega arith) is in omega (arith, le, some.0))
    ]

    by : (b : Bool) → test k ≡ b → ((n ≡ 0) ⊎ ((n < k) × (test n ≡ true)) → ((m : ℕ) → m < k → test m ≡ true → m ≤ n) → greatest_below test k ≡ n) → cond (test k) k (greatest_below test k) ≡ n
    by true is rest = ap (λ b. cond b k (greatest_below test k)) is ∙ higher is
    by false is rest = ap (λ b. cond b k (greatest_below test k)) is ∙ rest (lower is) (λ m lt passes. above m (omega (arith, lt)) passes)

pub last-is : (f : Files) (name : List ℕ) (n : ℕ) → IsLastNumber f name n → n ≡ last_number f name
last-is f name n is = sym (greatest-is (λ m. is_some (get f (numbered name m))) (2 ^ 64 - 1) n (elim is.there [ inl none ↦ inl none | inr some ↦ inr (is.known, some) ]) is.last)
