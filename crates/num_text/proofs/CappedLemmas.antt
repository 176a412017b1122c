-- A number that is too large counts as 2 ^ 32.
use Rattle.std.proofs.Common.{◌≡◌, ℕ, ◌^◌, ◌≤◌, min, Bool, true, false, cond, List, [], ◌∷◌, None, Some, refl, ◌∙◌, arith}
use Rattle.std.specs.Prelude.{IsSomeAnd}
use Rattle.num_text.specs.Numbers.{is_digit, value_after, number_at, after_digits}
use Rattle.num_text.specs.NumberRanges.{capped, capped_at}
use Rattle.num_text.proofs.NumberLemmas.{rest-step}

by-digit : (d : Bool) (x : ℕ × List ℕ) (rest : List ℕ) → (d ≡ true → rest ≡ x.1) → IsSomeAnd (cond d (Some x) None) (λ x. 2 ^ 32 ≤ x.0) → capped (cond d (Some x) None) ≡ Some (2 ^ 32, rest)
by-digit true x rest e h = let m : min x.0 (2 ^ 32) ≡ 2 ^ 32 = omega arith in rw (m, e refl) refl
by-digit false x rest e h = absurd h

pub capped-large : (bytes rest : List ℕ) → rest ≡ after_digits bytes → IsSomeAnd (number_at bytes) (λ x. 2 ^ 32 ≤ x.0) → capped_at bytes ≡ Some (2 ^ 32, rest)
capped-large [] rest e h = absurd h
capped-large (b ∷ bs) rest e h = by-digit (is_digit b) (value_after 0 (b ∷ bs), after_digits bs) rest (λ yes. e ∙ rest-step b bs yes) h
