-- The elements of a list, each by its place.
use Rattle.std.proofs.Common.{◌≡◌, ℕ, ◌+◌, List, ◌∷◌, get_or, drop, sym, ap, ◌∙◌, arith, suc, ◌-◌, ◌<◌, length, zero, [], Some, refl, Option}
use Rattle.std.proofs.lemmas.List.{get_or-drop, drop-drop, length-drop}
use Rattle.std.specs.Prelude.{slice_get}
use Rattle.std.proofs.lemmas.Option.{slice_get-get_or, same_Some}
use Rattle.std.specs.List.{range_with_len, zip}

pub front-is : {X : Type 0} (xs ys : List X) (x d : X) (i : ℕ) → drop i xs ≡ x ∷ ys → get_or xs i d ≡ x
front-is xs ys x d i e =
    let a : get_or (drop i xs) 0 d ≡ get_or xs (i + 0) d = get_or-drop i xs 0 d in
    let z : i + 0 ≡ i = omega arith in
    ap (λ k. get_or xs k d) (sym z) ∙ sym a ∙ ap (λ l. get_or l 0 d) e

pub front-rest : {X : Type 0} (xs ys : List X) (x : X) (i : ℕ) → drop i xs ≡ x ∷ ys → drop (i + 1) xs ≡ ys
front-rest xs ys x i e = sym (drop-drop 1 i xs) ∙ ap (drop 1) e

pub front-within : {X : Type 0} (xs ys : List X) (x : X) (i : ℕ) → drop i xs ≡ x ∷ ys → i < length xs
front-within xs ys x i e =
    let a : length (drop i xs) ≡ length xs - i = length-drop i xs in
    let b : length (drop i xs) ≡ suc (length ys) = ap length e in
    omega arith

pub there-is : {A : Type 0} (xs : List A) (i : ℕ) → i < length xs → (x : A) × (slice_get xs i ≡ Some x)
there-is [] i lt = absurd (omega (arith, lt))
there-is (x ∷ xs) zero lt = (x, refl)
there-is (x ∷ xs) (suc i) lt = there-is xs i (omega (arith, lt))

pub found : {A : Type 0} (xs : List A) (i : ℕ) (x : A) → i < length xs → x ≡ get_or xs i x → slice_get xs i ≡ Some x
found xs i x lt is = slice_get-get_or xs i x lt ∙ ap (λ y. Some y) (sym is)

abbrev pub behind : {A : Type 0} → ℕ → A → Option (ℕ × A)
behind n x = Some (n, x)

pub numbered-from : {A : Type 0} (a : ℕ) (xs : List A) (i : ℕ) (x : A) → slice_get xs i ≡ Some x → slice_get (zip (range_with_len a (length xs)) xs) i ≡ Some (a + i, x)
numbered-from a [] i x is = absurd cc
numbered-from {A = A} a (y ∷ xs) zero x is = let e : a ≡ a + 0 = omega arith in ap (λ n. Some (n, y)) e ∙ ap (λ (z : A). Some (a + 0, z)) (same_Some y x is)
numbered-from {A = A} a (y ∷ xs) (suc i) x is = let e : a + 1 + i ≡ a + suc i = omega arith in numbered-from (a + 1) xs i x is ∙ ap (λ n. behind n x) e

pub numbered-long : {A : Type 0} (a : ℕ) (xs : List A) → length (zip (range_with_len a (length xs)) xs) ≡ length xs
numbered-long a [] = refl
numbered-long a (y ∷ xs) = ap suc (numbered-long (a + 1) xs)
