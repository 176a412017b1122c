-- Parts of lists, and what is told.
use Rattle.line_store.specs.declared.Half.{Half}
use Rattle.line_store.specs.declared.Half.TheVariants.{First, Second}
use Rattle.page_pair.specs.Pair.{Pair, IsPair, page_of}
use Rattle.std.proofs.Common.{◌≡◌, ℕ, zero, suc, ◌+◌, ◌-◌, ◌*◌, ◌<◌, ◌≤◌, List, [], ◌∷◌, ◌++◌, length, get_or, take, drop, Option, None, Some, refl, sym, ap, ◌∙◌, arith, min, is_some, append_assoc, length-append}
use Rattle.std.proofs.Math.Nat.{suc-mul, zero-mul}
use Rattle.std.proofs.Math.Seq.{take-append_seam, drop-append-add}
use Rattle.std.specs.List.{flat_map}
use Rattle.std.proofs.lemmas.Bool.{false≢true}
use Rattle.std.proofs.lemmas.List.{length-take, drop-drop, drop-take, take-take, get_or-take, get_or-drop}

-- nothing is told where each thing that may be told is wrong
pub none-unless : {X : Type 0} (o : Option X) → ((x : X) → o ≡ Some x → ⊥) → o ≡ None
none-unless None f = refl
none-unless (Some x) f = absurd (f x refl)

-- a part of a part
pub window : {X : Type 0} (n a m o : ℕ) (b : List X) → a + n ≤ m → take n (drop a (take m (drop o b))) ≡ take n (drop (o + a) b)
window n a m o b le =
    let e : a + (m - a) ≡ m = omega arith in
    ap (λ k. take n (drop a (take k (drop o b)))) (sym e) ∙ ap (take n) (drop-take a (m - a) (drop o b)) ∙ take-take n (m - a) (drop a (drop o b)) (omega arith) ∙ ap (take n) (drop-drop a o b)

pub part-at : {X : Type 0} (n a i : ℕ) (d : X) (b : List X) → i < n → get_or (take n (drop a b)) i d ≡ get_or b (a + i) d
part-at n a i d b lt = get_or-take n (drop a b) i d lt ∙ get_or-drop a b i d

-- a part that came whole has as many bytes as were asked for
pub came-whole : {X : Type 0} (n m : ℕ) (xs ys : List X) → take n xs ≡ take m ys → m ≤ length ys → n ≤ m → n ≡ m
came-whole n m xs ys e long le = let a : length (take n xs) ≡ min n (length xs) = length-take n xs in let b : length (take m ys) ≡ min m (length ys) = length-take m ys in let c : length (take n xs) ≡ length (take m ys) = ap length e in omega arith

pub page-length : (p : Pair) → IsPair p → (h : Half) → length (page_of p h) ≡ p.size
page-length p is First = is.first
page-length p is Second = is.second

-- lists of one length, one behind another
pub uniform-length : {X : Type 0} (f : X → List ℕ) (w : ℕ) (d : X) (xs : List X) → ((j : ℕ) → j < length xs → length (f (get_or xs j d)) ≡ w) → length (flat_map f xs) ≡ length xs * w
uniform-length f w d [] each = sym (zero-mul w)
uniform-length f w d (x ∷ xs) each =
    let here : length (f x) ≡ w = each 0 (omega arith) in
    let more : length (flat_map f xs) ≡ length xs * w = uniform-length f w d xs (λ j lt. each (suc j) (omega arith)) in
    length-append (f x) (flat_map f xs) ∙ ap (λ n. n + length (flat_map f xs)) here ∙ ap (λ n. w + n) more ∙ (let e : suc (length xs) * w ≡ length xs * w + w = suc-mul (length xs) w in omega arith)

pub uniform-at : {X : Type 0} (f : X → List ℕ) (w : ℕ) (d : X) (rest : List ℕ) (xs : List X) (i : ℕ) → ((j : ℕ) → j < length xs → length (f (get_or xs j d)) ≡ w) → i < length xs → take w (drop (i * w) (flat_map f xs ++ rest)) ≡ f (get_or xs i d)
uniform-at f w d rest [] i each lt = absurd (omega arith)
uniform-at f w d rest (x ∷ xs) zero each lt =
    let here : length (f x) ≡ w = each 0 (omega arith) in
    ap (λ n. take w (drop n ((f x ++ flat_map f xs) ++ rest))) (zero-mul w)
    ∙ ap (λ n. take n ((f x ++ flat_map f xs) ++ rest)) (sym here)
    ∙ ap (take (length (f x))) (append_assoc (f x) (flat_map f xs) rest)
    ∙ take-append_seam (f x) (flat_map f xs ++ rest)
uniform-at f w d rest (x ∷ xs) (suc i) each lt =
    let here : length (f x) ≡ w = each 0 (omega arith) in
    let place : suc i * w ≡ length (f x) + i * w = (let e : suc i * w ≡ i * w + w = suc-mul i w in omega arith) in
    ap (λ n. take w (drop n ((f x ++ flat_map f xs) ++ rest))) place
    ∙ ap (λ l. take w (drop (length (f x) + i * w) l)) (append_assoc (f x) (flat_map f xs) rest)
    ∙ ap (take w) (drop-append-add (f x) (flat_map f xs ++ rest) (i * w))
    ∙ uniform-at f w d rest xs i (λ j lt. each (suc j) (omega arith)) (omega arith)

pub part-of-front : (n a m : ℕ) (xs : List ℕ) → a + n ≤ m → take n (drop a (take m xs)) ≡ take n (drop a xs)
part-of-front n a m xs le =
    let e : a + (m - a) ≡ m = omega arith in
    ap (λ k. take n (drop a (take k xs))) (sym e) ∙ ap (take n) (drop-take a (m - a) xs) ∙ take-take n (m - a) (drop a xs) (omega arith)

-- what was told is told
pub told-before : (t u : Option (List ℕ)) (b : List ℕ) → is_some u ≡ is_some t → u ≡ Some b → (a : List ℕ) × (t ≡ Some a)
told-before None u b e is = absurd (false≢true (sym e ∙ ap is_some is))
told-before (Some a) u b e is = (a, refl)
