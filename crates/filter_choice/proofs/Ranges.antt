-- A number of a row is in one of several items exactly where an item meets the row.
use Rattle.std.proofs.Common.{◌≡◌, ℕ, suc, ◌-◌, ◌≤◌, Bool, true, false, ◌&&◌, ◌||◌, List, [], ◌∷◌, refl, sym, ap, ◌∙◌, arith}
use Rattle.std.specs.Prelude.{nat_le, max, min}
use Rattle.std.specs.List.{list_any}
use Rattle.std.proofs.lemmas.Bool.{le-leb, leb-true, and_from}
use Rattle.glob_match.proofs.Deciding.{found-in-range, in-range-found}
use Rattle.cli_tool_words.specs.PlainJobs.{PlainItems}
use Rattle.filter_choice.specs.Selected.{is_in}
use Rattle.filter_choice.specs.OldLines.{from_to}

swap : (a b c d : Bool) → ((a || b) || (c || d)) ≡ ((a || c) || (b || d))
swap true b c d = refl
swap false true true d = refl
swap false true false d = refl
swap false false true d = refl
swap false false false d = refl

any-or : {A : Type 0} (p q : A → Bool) (xs : List A) → list_any (λ x. p x || q x) xs ≡ (list_any p xs || list_any q xs)
any-or p q [] = refl
any-or p q (x ∷ xs) = ap (λ b. (p x || q x) || b) (any-or p q xs) ∙ swap (p x) (q x) (list_any p xs) (list_any q xs)

any-none : {A : Type 0} (xs : List A) → list_any (λ (x : A). false) xs ≡ false
any-none [] = refl
any-none (x ∷ xs) = any-none xs

same : (a b : Bool) → (a ≡ true → b ≡ true) → (b ≡ true → a ≡ true) → a ≡ b
same true b on back = sym (on refl)
same false true on back = back refl
same false false on back = refl

and-both : (p q : Bool) → (p && q) ≡ true → (p ≡ true) × (q ≡ true)
and-both true q is = (refl, is)
and-both false q is = absurd cc

module _ (first last : ℕ) where
  abbrev is_between : ℕ × ℕ → ℕ → Bool
  is_between r n = nat_le r.0 n && nat_le n r.1

  abbrev pub meets : ℕ × ℕ → Bool
  meets r = nat_le (max first r.0) (min last r.1)

  one-range : (r : ℕ × ℕ) → list_any (is_between r) (from_to first last) ≡ meets r
  one-range r = same _ _
      (λ found.
      let k = found-in-range (is_between r) first (suc last - first) found in
      let b : (nat_le r.0 k.0 ≡ true) × (nat_le k.0 r.1 ≡ true) = and-both _ _ k.3 in
      le-leb (max first r.0) (min last r.1) (omega (arith, k.1, k.2, leb-true r.0 k.0 b.0, leb-true k.0 r.1 b.1)))
      (λ meet.
      let le : max first r.0 ≤ min last r.1 = leb-true (max first r.0) (min last r.1) meet in
      in-range-found (is_between r) first (suc last - first) (max first r.0) (omega arith) (omega (arith, le))
      (and_from _ _ (le-leb r.0 (max first r.0) (omega arith)) (le-leb (max first r.0) r.1 (omega (arith, le)))))

  pub one-in : (items : PlainItems) → list_any (is_in items) (from_to first last) ≡ list_any meets items
  one-in [] = any-none (from_to first last)
  one-in (r ∷ items) =
      any-or (is_between r) (is_in items) (from_to first last)
      ∙ ap (λ b. b || list_any (is_in items) (from_to first last)) (one-range r)
      ∙ ap (λ b. meets r || b) (one-in items)
