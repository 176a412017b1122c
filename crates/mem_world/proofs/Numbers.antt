-- The greatest number of a backup that the slots have.
use Rattle.std.proofs.Common.{◌≡◌, ◌⊎◌, inl, inr, ℕ, ◌+◌, ◌-◌, ◌^◌, ◌<◌, ◌≤◌, List, [], ◌∷◌, length, max, true, false, IsSome, Option, None, Some, ap, ◌↔◌, refl, sym, subst, ◌∙◌, arith, get_or, below_more}
use Rattle.std.proofs.lemmas.Bool.{cases_lt, false≢true}
use Rattle.std.proofs.lemmas.List.{get_or_default}
use Rattle.std.proofs.lemmas.Option.{none-some}
use Rattle.std.specs.Prelude.{is_some, unwrap_or}
use Rattle.std.specs.FinMap.{get}
use Rattle.outside.specs.Files.{Files}
use Rattle.outside.specs.Numbered.{numbered, IsLastNumber}
use Rattle.mem_world.specs.declared.log.Slot.{Slot}
use Rattle.mem_world.specs.Log.{look, place, IsNumberThere, HasLast}
use Rattle.mem_world.proofs.Places.{place-there, name-at_place}

-- ---- one file's
pub number_none : (ss : List Slot) (name file : List ℕ) (o : Option (List ℕ)) → o ≡ look ss file → is_some o ≡ false → IsNumberThere ss name file 0
number_none ss name file o is none = record { known = omega arith; there = inl refl; last = λ m small names some. absurd (false≢true (sym none ∙ subst (λ (x : Option (List ℕ)). IsSome x) (sym is) some)) }

pub number_some : (ss : List Slot) (name file : List ℕ) (o : Option (List ℕ)) (n : ℕ) → o ≡ look ss file → is_some o ≡ true → ((m : ℕ) → (Some n ≡ Some m) ↔ ((file ≡ numbered name m) × (m < 2 ^ 64 - 1))) → IsNumberThere ss name file n
number_some ss name file o n is some number =
    let it = (number n).0 refl in
    record {
      known = it.1;
      there = inr (subst (λ (q : List ℕ). IsSome (look ss q)) it.0 (subst (λ (x : Option (List ℕ)). IsSome x) is some));
      last = λ m small names there. (let same : n ≡ m = ap (λ (x : Option ℕ). unwrap_or x 0) ((number m).1 (names, small)) in omega (arith, same));
    }

pub number_other : (ss : List Slot) (name file : List ℕ) → ((m : ℕ) → (None ≡ Some m) ↔ ((file ≡ numbered name m) × (m < 2 ^ 64 - 1))) → IsNumberThere ss name file 0
number_other ss name file number = record { known = omega arith; there = inl refl; last = λ m small names there. absurd (none-some m ((number m).1 (names, small))) }

-- the texts of the names
pub of_texts : (o : Option ℕ) (name file a b : List ℕ) → a ≡ name → b ≡ file → ((m : ℕ) → (o ≡ Some m) ↔ ((b ≡ numbered a m) × (m < 2 ^ 64 - 1))) → (m : ℕ) → (o ≡ Some m) ↔ ((file ≡ numbered name m) × (m < 2 ^ 64 - 1))
of_texts o name file a b one other number m =
    subst (λ (x : List ℕ). (o ≡ Some m) ↔ ((file ≡ numbered x m) × (m < 2 ^ 64 - 1))) one (subst (λ (x : List ℕ). (o ≡ Some m) ↔ ((x ≡ numbered a m) × (m < 2 ^ 64 - 1))) other (number m))

-- ---- all of them
-- none of the first slots has a file with a greater one
pub record LastSoFar (ss : List Slot) (i : ℕ) (name : List ℕ) (n : ℕ) : Type 0 where
  pub known : n < 2 ^ 64 - 1
  pub there : (n ≡ 0) ⊎ IsSome (look ss (numbered name n))
  pub last : (k : ℕ) (d : Slot) (m : ℕ) → k < i → m < 2 ^ 64 - 1 → (get_or ss k d).name ≡ numbered name m → IsSome (look ss (get_or ss k d).name) → m ≤ n

pub last_none : (ss : List Slot) (name : List ℕ) → LastSoFar ss 0 name 0
last_none ss name = record { known = omega arith; there = inl refl; last = λ k d m lt small is some. absurd (omega arith) }

pub last_more : (ss : List Slot) (i : ℕ) (s : Slot) (name : List ℕ) (n more both : ℕ) → i < length ss → s ≡ get_or ss i s → both ≡ max n more → IsNumberThere ss name s.name more
    → LastSoFar ss i name n → LastSoFar ss (i + 1) name both
last_more ss i s name n more both lt at is number so_far = record {
  known = omega (arith, is, number.known, so_far.known);
  there = elim (cases_lt n more) [
    | inl greater ↦ (let same : more ≡ both = omega (arith, is, greater) in subst (λ (k : ℕ). (k ≡ 0) ⊎ IsSome (look ss (numbered name k))) same number.there)
    | inr less ↦ (let same : n ≡ both = omega (arith, is, less) in subst (λ (k : ℕ). (k ≡ 0) ⊎ IsSome (look ss (numbered name k))) same so_far.there)
  ];
  last = λ k d m below. below_more (λ (j : ℕ). m < 2 ^ 64 - 1 → (get_or ss j d).name ≡ numbered name m → IsSome (look ss (get_or ss j d).name) → m ≤ both) i
      (λ j before fits names some. omega (arith, is, so_far.last j d m before fits names some))
      (let same : get_or ss i d ≡ s = get_or_default ss i d s lt ∙ sym at in
      subst (λ (x : Slot). m < 2 ^ 64 - 1 → x.name ≡ numbered name m → IsSome (look ss x.name) → m ≤ both) (sym same) (λ fits names some. omega (arith, is, number.last m fits names some))) k below;
}

pub last_all : (ss : List Slot) (name : List ℕ) (n : ℕ) → LastSoFar ss (length ss) name n → HasLast ss name n
last_all [] name n so_far = record { known = so_far.known; there = so_far.there; last = λ m small some. absurd (false≢true some) }
last_all (s ∷ ss) name n so_far = record {
  known = so_far.known;
  there = so_far.there;
  last = λ m small some.
      let all = s ∷ ss in
      let q = numbered name m in
      let lt = place-there all q some in
      let same = name-at_place all q s lt in
      so_far.last (place all q) s m lt small same (subst (λ (x : List ℕ). IsSome (look all x)) (sym same) some);
}

-- and so has a tree of the same files
pub last_there : (ss : List Slot) (f : Files) (name : List ℕ) (n : ℕ) → ((q : List ℕ) → look ss q ≡ get f q) → HasLast ss name n → IsLastNumber f name n
last_there ss f name n is has = record {
  known = has.known;
  there = elim has.there [ inl none ↦ inl none | inr some ↦ inr (subst (λ (o : Option (List ℕ)). IsSome o) (is (numbered name n)) some) ];
  last = λ m small some. has.last m small (subst (λ (o : Option (List ℕ)). IsSome o) (sym (is (numbered name m))) some);
}
