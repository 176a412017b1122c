-- A text that grows by what each element of a list gives.
use Rattle.std.proofs.Common.{◌≡◌, ◌∙◌, ℕ, suc, ◌+◌, ◌-◌, ◌<◌, ◌≤◌, List, [], ◌∷◌, ◌++◌, drop, get_or, length, flat_map, replicate, Bool, true, false, nat_lt, if◌then◌else◌, Result, Ok, Err, OnOk, is_ok, ap, sym, arith}
use Rattle.std.proofs.lemmas.Bool.{le-ltb, lt-ltb}
use Rattle.std.proofs.lemmas.List.{append_assoc, append-nil, at_drop_all, at_drop_more}
use Rattle.std.proofs.lemmas.List.Concat.{flat_map-cons}
use Rattle.patch_options.specs.Usage.{gap}

-- ---- elements

pub one_more : {X Y : Type 0} (f : X → List Y) (xs : List X) (n : ℕ) (x : X) (old new whole : List Y) → n < length xs
    → old ++ flat_map f (drop n xs) ≡ whole → new ≡ old ++ f (get_or xs n x) → new ++ flat_map f (drop (n + 1) xs) ≡ whole
one_more f xs n x old new whole within so_far is =
    let y = get_or xs n x in
    ap (λ l. l ++ flat_map f (drop (n + 1) xs)) is ∙ (append_assoc old (f y) (flat_map f (drop (n + 1) xs))
    ∙ (ap (λ l. old ++ l) (sym (flat_map-cons f y (drop (n + 1) xs))) ∙ (sym (at_drop_more (λ l. old ++ flat_map f l) xs n x within) ∙ so_far)))

pub all_told : {X Y : Type 0} (f : X → List Y) (xs : List X) (n : ℕ) (text whole : List Y) → length xs ≤ n → text ++ flat_map f (drop n xs) ≡ whole → text ≡ whole
all_told f xs n text whole end so_far = sym (append-nil text) ∙ (sym (at_drop_all (λ l. text ++ flat_map f l) xs n end) ∙ so_far)

-- ---- pieces

-- a last piece that may find no room
pub told_then : {E : Type 0} (r : Result (Unit {0}) E) {P Q : Type 0} → OnOk r P → (P → Q) → OnOk r Q
told_then (Ok u) p f = f p
told_then (Err e) p f = tt

pub told_if : {E : Type 0} (r : Result (Unit {0}) E) (old : List ℕ) {new text : List ℕ} {Q : Type 0} → new ≡ (if is_ok r then text else old) → (new ≡ text → Q) → OnOk r Q
told_if (Ok u) old is f = f is
told_if (Err e) old is f = tt

two_told : (old a b : List ℕ) {e new : List ℕ} → e ≡ old ++ a → new ≡ e ++ b → new ≡ old ++ (a ++ b)
two_told old a b is-e is-new = rw (is-new, is-e) (append_assoc old a b)

pub three_told : (old a b c : List ℕ) {e f new : List ℕ} → e ≡ old ++ a → f ≡ e ++ b → new ≡ f ++ c → new ≡ old ++ (a ++ (b ++ c))
three_told old a b c is-e is-f is-new = rw (is-new, is-f, is-e) (simp append_assoc)

pub five_told : (old a b c d l : List ℕ) {e f g h new : List ℕ} → e ≡ old ++ a → f ≡ e ++ b → g ≡ f ++ c → h ≡ g ++ d → new ≡ h ++ l → new ≡ old ++ (a ++ (b ++ (c ++ (d ++ l))))
five_told old a b c d l is-e is-f is-g is-h is-new =
    two_told old (a ++ (b ++ c)) (d ++ l) (three_told old a b c is-e is-f is-g) (two_told _ d l is-h is-new)
    ∙ ap (λ t. old ++ t) (append_assoc a (b ++ c) (d ++ l) ∙ ap (λ t. a ++ t) (append_assoc b c (d ++ l)))

-- ---- spaces

pub space_more : (n k : ℕ) (old new whole : List ℕ) → k < n → old ++ replicate (n - k) 32 ≡ whole → new ≡ old ++ 32 ∷ [] → new ++ replicate (n - (k + 1)) 32 ≡ whole
space_more n k old new whole within so_far is =
    let left = n - (k + 1) in
    let one : n - k ≡ suc (n - (k + 1)) = omega arith in
    ap (λ l. l ++ replicate left 32) is ∙ (append_assoc old (32 ∷ []) (replicate left 32) ∙ (ap (λ m. old ++ replicate m 32) (sym one) ∙ so_far))

pub spaces_told : (n k : ℕ) (text whole : List ℕ) → n ≤ k → text ++ replicate (n - k) 32 ≡ whole → text ≡ whole
spaces_told n k text whole end so_far =
    let none : n - k ≡ 0 = omega arith in
    sym (append-nil text) ∙ (ap (λ m. text ++ replicate m 32) (sym none) ∙ so_far)

if_is : (b v : Bool) (x y : List ℕ) → b ≡ v → (if b then x else y) ≡ (if v then x else y)
if_is b v x y is = ap (λ (c : Bool). if c then x else y) is

pub gap_behind : (width : ℕ) → width < 28 → replicate (28 - width) 32 ≡ gap width
unfolding gap
gap_behind width within = sym (if_is (nat_lt width 28) true (replicate (28 - width) 32) (10 ∷ replicate 30 32) (lt-ltb width 28 within))

pub gap_below : (width : ℕ) → 28 ≤ width → 10 ∷ replicate 30 32 ≡ gap width
unfolding gap
gap_below width beyond = sym (if_is (nat_lt width 28) false (replicate (28 - width) 32) (10 ∷ replicate 30 32) (le-ltb width 28 beyond))
