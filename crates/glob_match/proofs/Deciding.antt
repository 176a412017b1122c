-- The test of a match and the relation.
use Rattle.std.proofs.Common.{◌≡◌, ℕ, zero, suc, ◌+◌, ◌<◌, ◌≤◌, Bool, true, false, ◌||◌, List, [], ◌∷◌, length, drop, refl, sym, subst, arith}
use Rattle.std.proofs.Common.{inl, inr}
use Rattle.std.proofs.lemmas.Bool.{cases_lt, and_from, and_parts, or_left, or_right}
use Rattle.std.specs.Prelude.{◌↔◌, IsTrue}
use Rattle.std.specs.List.{list_any, range_with_len}
use Rattle.glob_match.specs.Pattern.{Element, Run, Any, Byte, OneOf, elements}
use Rattle.glob_match.specs.Matching.{fits, does_match, Match, Matches}

-- ---- one of the numbers in a row passes a test

or-true : (p q : Bool) → (p || q) ≡ true → p ≡ false → q ≡ true
or-true true q is none = absurd cc
or-true false q is none = is

pub found-in-range : (test : ℕ → Bool) (a n : ℕ) → list_any test (range_with_len a n) ≡ true → (k : ℕ) × (a ≤ k) × (k < a + n) × (test k ≡ true)
found-in-range test a zero is = absurd cc
found-in-range test a (suc n) is = elim (test a) as (λ b. test a ≡ b → (k : ℕ) × (a ≤ k) × (k < a + suc n) × (test k ≡ true)) [
  | true ↦ λ here. (a, omega arith, omega arith, here)
  | false ↦ λ here. let more = found-in-range test (a + 1) n (or-true (test a) _ is here) in (more.0, omega (arith, more.1), omega (arith, more.2), more.3)
] refl

pub in-range-found : (test : ℕ → Bool) (a n k : ℕ) → a ≤ k → k < a + n → test k ≡ true → list_any test (range_with_len a n) ≡ true
in-range-found test a zero k low high is = absurd (omega arith)
in-range-found test a (suc n) k low high is = elim (cases_lt a k) [
  | inl less ↦ or_right (test a) _ (in-range-found test (a + 1) n k (omega (arith, less)) (omega arith) is)
  | inr all ↦ or_left (test a) _ (let same : k ≡ a = omega (arith, all) in subst (λ m. test m ≡ true) same is)
]

-- ---- the test and the relation

matched : (es : List Element) (name : List ℕ) → fits es name ≡ true → Match es name
unfolding fits Match
matched [] [] is = refl
matched [] (b ∷ bs) is = absurd cc
matched (Run ∷ es) name is = let f = found-in-range (λ k. fits es (drop k name)) 0 (length name + 1) is in (f.0, omega (arith, f.2), matched es (drop f.0 name) f.3)
matched (Any ∷ es) [] is = absurd cc
matched (Any ∷ es) (b ∷ bs) is = matched es bs is
matched (Byte c ∷ es) [] is = absurd cc
matched (Byte c ∷ es) (b ∷ bs) is = let h = and_parts _ _ is in (h.0, matched es bs h.1)
matched (OneOf o ms ∷ es) [] is = absurd cc
matched (OneOf o ms ∷ es) (b ∷ bs) is = let h = and_parts _ _ is in (h.0, matched es bs h.1)

fitting : (es : List Element) (name : List ℕ) → Match es name → fits es name ≡ true
unfolding fits Match
fitting [] [] is = refl
fitting [] (b ∷ bs) is = absurd cc
fitting (Run ∷ es) name is = in-range-found (λ k. fits es (drop k name)) 0 (length name + 1) is.0 (omega arith) (omega (arith, is.1)) (fitting es (drop is.0 name) is.2)
fitting (Any ∷ es) [] is = absurd is
fitting (Any ∷ es) (b ∷ bs) is = fitting es bs is
fitting (Byte c ∷ es) [] is = absurd is
fitting (Byte c ∷ es) (b ∷ bs) is = and_from _ _ is.0 (fitting es bs is.1)
fitting (OneOf o ms ∷ es) [] is = absurd is
fitting (OneOf o ms ∷ es) (b ∷ bs) is = and_from _ _ is.0 (fitting es bs is.1)

pub decided : (pattern name : List ℕ) → (does_match pattern name ≡ true) ↔ Matches pattern name
decided pattern name = (matched (elements pattern) name, fitting (elements pattern) name)

same-test : (b c : Bool) → (IsTrue b → c ≡ true) → (c ≡ true → IsTrue b) → b ≡ c
same-test true c on back = sym (on refl)
same-test false true on back = let bad : false ≡ true = back refl in absurd cc
same-test false false on back = refl

-- what holds exactly where the relation does is the test
pub is-test : (pattern name : List ℕ) (b : Bool) → IsTrue b ↔ Matches pattern name → b ≡ does_match pattern name
is-test pattern name b is = same-test b _ (λ yes. (decided pattern name).1 (is.0 yes)) (λ yes. is.1 ((decided pattern name).0 yes))
