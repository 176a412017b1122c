-- Reading a pattern element by element.
use Rattle.std.proofs.Common.{◌≡◌, ◌≢◌, ℕ, zero, suc, ◌+◌, ◌-◌, ◌<◌, ◌≤◌, ⊎_elim, ◌||◌, Bool, true, false, cond, eqb, ltb, List, [], ◌∷◌, length, get_or, take, drop, Option, None, Some, refl, subst, sym, ap, ◌∙◌, arith, length-drop, length-take}
use Rattle.std.specs.Prelude.{option_map, slice_range}
use Rattle.std.proofs.lemmas.List.{drop_all, drop_more, drop-drop}
use Rattle.std.proofs.lemmas.Bool.{cases_lt, eq-eqb, false≢true, le-ltb, ne_eqb}
use Rattle.glob_match.specs.Walking.{IsFront}
use Rattle.glob_match.specs.declared.Piece.TheVariants.{OneOf as OneOfPiece}
use Rattle.glob_match.specs.Pattern.{Byte, before_bracket, members_of, set_front, is_sign, after_open, front_of, elements_after, elements}

skipped : (skip : ℕ) (bs : List ℕ) → elements_after skip bs ≡ elements_after 0 (drop skip bs)
unfolding elements_after
skipped zero [] = refl
skipped zero (b ∷ bs) = refl
skipped (suc skip) [] = refl
skipped (suc skip) (b ∷ bs) = skipped skip bs

elements-cons : (b : ℕ) (bs : List ℕ) → elements (b ∷ bs) ≡ (front_of b bs).element ∷ elements (drop ((front_of b bs).size - 1) bs)
unfolding elements_after
elements-cons b bs = ap (λ es. (front_of b bs).element ∷ es) (skipped ((front_of b bs).size - 1) bs)

pub elements-none : elements [] ≡ []
unfolding elements_after
elements-none = refl

-- the elements from a place on
pub elements-at : (pattern : List ℕ) (at next : ℕ) → at < length pattern → next ≡ at + (front_of (get_or pattern at 0) (drop (at + 1) pattern)).size → at < next
    → elements (drop at pattern) ≡ (front_of (get_or pattern at 0) (drop (at + 1) pattern)).element ∷ elements (drop next pattern)
elements-at pattern at next lt e low =
    let size : ℕ = (front_of (get_or pattern at 0) (drop (at + 1) pattern)).size in
    let far : at + 1 + (size - 1) ≡ next = omega arith in
    ap elements (drop_more pattern at 0 lt) ∙ elements-cons (get_or pattern at 0) (drop (at + 1) pattern)
    ∙ ap (λ bs. (front_of (get_or pattern at 0) (drop (at + 1) pattern)).element ∷ elements bs) (drop-drop (size - 1) (at + 1) pattern ∙ ap (λ k. drop k pattern) far)

Clean : List ℕ → ℕ → Type 0
Clean s k = (i : ℕ) → i < k → get_or s i 0 ≢ 93

pub bracket-found : (s : List ℕ) (k : ℕ) → k < length s → get_or s k 0 ≡ 93 → ((i : ℕ) → i < k → get_or s i 0 ≢ 93) → before_bracket s ≡ Some (take k s)
unfolding before_bracket
bracket-found [] k lt is before = absurd (omega arith)
bracket-found (b ∷ bs) zero lt is before = let t : eqb b 93 ≡ true = eq-eqb b 93 is in rw t refl
bracket-found (b ∷ bs) (suc k) lt is before =
    let ne : eqb b 93 ≡ false = grind (arith, before 0 (omega arith)) in
    let more : before_bracket bs ≡ Some (take k bs) = bracket-found bs k (omega arith) is (λ i h. before (suc i) (omega arith)) in
    rw (ne, more) refl

pub bracket-none : (s : List ℕ) → ((i : ℕ) → i < length s → get_or s i 0 ≢ 93) → before_bracket s ≡ None
unfolding before_bracket
bracket-none [] before = refl
bracket-none (b ∷ bs) before =
    let ne : eqb b 93 ≡ false = grind (arith, before 0 (omega arith)) in
    let more : before_bracket bs ≡ None = bracket-none bs (λ i h. before (suc i) (omega arith)) in
    rw (ne, more) refl

pub members-none : (pattern : List ℕ) (start : ℕ) → start < length pattern → ((i : ℕ) → i < length (drop (start + 1) pattern) → get_or (drop (start + 1) pattern) i 0 ≢ 93) → members_of (drop start pattern) ≡ None
members-none pattern start lt none =
    ap members_of (drop_more pattern start 0 lt) ∙ ap (option_map (λ ms. get_or pattern start 0 ∷ ms)) (bracket-none (drop (start + 1) pattern) none)

pub members-found : (pattern : List ℕ) (start k : ℕ) → start < length pattern → k < length (drop (start + 1) pattern) → get_or (drop (start + 1) pattern) k 0 ≡ 93 → ((i : ℕ) → i < k → get_or (drop (start + 1) pattern) i 0 ≢ 93)
    → members_of (drop start pattern) ≡ Some (slice_range pattern start (start + 1 + k))
members-found pattern start k lt high is before =
    let width : start + 1 + k - start ≡ suc k = omega arith in
    ap members_of (drop_more pattern start 0 lt) ∙ ap (option_map (λ ms. get_or pattern start 0 ∷ ms)) (bracket-found (drop (start + 1) pattern) k high is before)
    ∙ sym (rw (width, drop_more pattern start 0 lt) refl)

pub sign-open : (pattern : List ℕ) (at : ℕ) → true ≡ is_sign (drop (at + 1) pattern) → after_open (drop (at + 1) pattern) ≡ set_front true 1 (members_of (drop (at + 1 + 1) pattern))
sign-open pattern at e =
    ap (λ v. cond v (set_front true 1 (members_of (drop 1 (drop (at + 1) pattern)))) (set_front false 0 (members_of (drop (at + 1) pattern)))) (sym e)
    ∙ ap (λ r. set_front true 1 (members_of r)) (drop-drop 1 (at + 1) pattern)

pub sign-shut : (pattern : List ℕ) (at k : ℕ) → k ≡ at + 1 → false ≡ is_sign (drop (at + 1) pattern) → after_open (drop (at + 1) pattern) ≡ set_front false 0 (members_of (drop k pattern))
sign-shut pattern at k same e =
    ap (λ v. cond v (set_front true 1 (members_of (drop 1 (drop (at + 1) pattern)))) (set_front false 0 (members_of (drop (at + 1) pattern)))) (sym e)
    ∙ ap (λ n. set_front false 0 (members_of (drop n pattern))) (sym same)

pub sign-there : (pattern : List ℕ) (k : ℕ) → true ≡ is_sign (drop k pattern) → k < length pattern
sign-there pattern k is = ⊎_elim (λ lt. lt) (λ le. absurd (false≢true (sym (is ∙ ap is_sign (drop_all k pattern le))))) (cases_lt k (length pattern))

-- a set that has an end
pub set-is : (pattern : List ℕ) (at sign start end : ℕ) (is_opposite : Bool) (o : Option (List ℕ)) → start ≡ at + sign + 1 → start < end → end < length pattern → o ≡ Some (slice_range pattern start end)
    → IsFront pattern at (set_front is_opposite sign o) (record { piece = OneOfPiece is_opposite start end; next = end + 1 })
set-is pattern at sign start end is_opposite o begins low high is =
    subst (λ m. IsFront pattern at (set_front is_opposite sign m) (record { piece = OneOfPiece is_opposite start end; next = end + 1 })) (sym is) (record {
      element = refl;
      next = omega (arith, begins, low, high, length-take (end - start) (drop start pattern), length-drop start pattern);
      low = omega (arith, begins, low);
      high = omega (arith, high);
      lies = (omega (arith, low), omega (arith, high));
    })

pub backslash-front : (pattern : List ℕ) (at : ℕ) → get_or pattern at 0 ≡ 92 → at + 1 < length pattern → front_of (get_or pattern at 0) (drop (at + 1) pattern) ≡ record { element = Byte (get_or pattern (at + 1) 0); size = 2 }
unfolding front_of
backslash-front pattern at is lt = rw (is, drop_more pattern (at + 1) 0 lt) refl

pub backslash-last : (pattern : List ℕ) (at : ℕ) → get_or pattern at 0 ≡ 92 → length pattern ≤ at + 1 → front_of (get_or pattern at 0) (drop (at + 1) pattern) ≡ record { element = Byte 92; size = 1 }
unfolding front_of
backslash-last pattern at is le = rw (is, drop_all (at + 1) pattern le) refl

-- whether a sign stands at a place, by the tests of its byte
pub sign-past : (pattern : List ℕ) (k : ℕ) → length pattern ≤ k → ltb k (length pattern) ≡ is_sign (drop k pattern)
sign-past pattern k le = le-ltb k (length pattern) le ∙ sym (ap is_sign (drop_all k pattern le))

pub sign-first : (pattern : List ℕ) (k : ℕ) → k < length pattern → get_or pattern k 0 ≡ 33 → eqb (get_or pattern k 0) 33 ≡ is_sign (drop k pattern)
sign-first pattern k lt is =
    let same = eq-eqb (get_or pattern k 0) 33 is in
    same ∙ sym (ap is_sign (drop_more pattern k 0 lt) ∙ ap (λ t. t || eqb (get_or pattern k 0) 94) same)

pub sign-second : (pattern : List ℕ) (k : ℕ) → k < length pattern → get_or pattern k 0 ≢ 33 → eqb (get_or pattern k 0) 94 ≡ is_sign (drop k pattern)
sign-second pattern k lt other = sym (ap is_sign (drop_more pattern k 0 lt) ∙ ap (λ t. t || eqb (get_or pattern k 0) 94) (ne_eqb (get_or pattern k 0) 33 other))
