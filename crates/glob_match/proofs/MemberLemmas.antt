-- Whether a byte is a member, place by place.
use Rattle.std.proofs.Common.{◌≡◌, ◌≢◌, ℕ, ◌+◌, ◌-◌, ◌<◌, ◌≤◌, true, false, eqb, leb, ◌&&◌, ◌||◌, List, [], ◌∷◌, length, get_or, drop, refl, sym, ap, ◌∙◌, arith, length-drop}
use Rattle.std.proofs.lemmas.List.{drop-drop, get_or-drop, drop_all}
use Rattle.std.proofs.lemmas.Bool.{eq-eqb, ne_eqb, le-leb, lt-leb, and_left, and_right}
use Rattle.std.proofs.Math.Bool.{or-false}
use Rattle.glob_match.specs.Matching.{is_member}

range-front : (xs : List ℕ) (byte : ℕ) → 2 < length xs → get_or xs 1 0 ≡ 45 → is_member xs byte ≡ ((leb (get_or xs 0 0) byte && leb byte (get_or xs 2 0)) || is_member (drop 3 xs) byte)
unfolding is_member
range-front [] byte lt e = absurd (omega arith)
range-front (a ∷ []) byte lt e = absurd (omega arith)
range-front (a ∷ b ∷ []) byte lt e = absurd (omega arith)
range-front (a ∷ b ∷ z ∷ more) byte lt e = let t : eqb b 45 ≡ true = eq-eqb b 45 e in rw t refl

one-front : (xs : List ℕ) (byte : ℕ) → 0 < length xs → (2 < length xs → get_or xs 1 0 ≢ 45) → is_member xs byte ≡ (eqb (get_or xs 0 0) byte || is_member (drop 1 xs) byte)
unfolding is_member
one-front [] byte lt ne = absurd (omega arith)
one-front (a ∷ []) byte lt ne = sym (or-false (eqb a byte))
one-front (a ∷ b ∷ []) byte lt ne = refl
one-front (a ∷ b ∷ z ∷ more) byte lt ne = let t : eqb b 45 ≡ false = ne_eqb b 45 (ne (omega arith)) in rw t refl

-- at a place
pub range-at : (ms : List ℕ) (at byte : ℕ) → 2 < length ms - at → get_or ms (at + 1) 0 ≡ 45 → is_member (drop at ms) byte ≡ ((leb (get_or ms at 0) byte && leb byte (get_or ms (at + 2) 0)) || is_member (drop (at + 3) ms) byte)
range-at ms at byte lt e =
    let first : get_or (drop at ms) 0 0 ≡ get_or ms at 0 = get_or-drop at ms 0 0 ∙ ap (λ k. get_or ms k 0) (plus-none at) in
    let second : get_or (drop at ms) 1 0 ≡ 45 = get_or-drop at ms 1 0 ∙ e in
    let third : get_or (drop at ms) 2 0 ≡ get_or ms (at + 2) 0 = get_or-drop at ms 2 0 in
    let rest : drop 3 (drop at ms) ≡ drop (at + 3) ms = drop-drop 3 at ms in
    range-front (drop at ms) byte (omega (arith, length-drop at ms)) second
    ∙ ap (λ b. (leb b byte && leb byte (get_or (drop at ms) 2 0)) || is_member (drop 3 (drop at ms)) byte) first
    ∙ ap (λ b. (leb (get_or ms at 0) byte && leb byte b) || is_member (drop 3 (drop at ms)) byte) third
    ∙ ap (λ r. (leb (get_or ms at 0) byte && leb byte (get_or ms (at + 2) 0)) || is_member r byte) rest
  where
    plus-none : (k : ℕ) → k + 0 ≡ k
    plus-none k = omega arith

pub one-at : (ms : List ℕ) (at byte : ℕ) → at < length ms → (2 < length ms - at → get_or ms (at + 1) 0 ≢ 45) → is_member (drop at ms) byte ≡ (eqb (get_or ms at 0) byte || is_member (drop (at + 1) ms) byte)
one-at ms at byte lt ne =
    let first : get_or (drop at ms) 0 0 ≡ get_or ms at 0 = get_or-drop at ms 0 0 ∙ ap (λ k. get_or ms k 0) (plus-none at) in
    let rest : drop 1 (drop at ms) ≡ drop (at + 1) ms = drop-drop 1 at ms in
    one-front (drop at ms) byte (omega (arith, length-drop at ms)) (λ more e. ne (omega (arith, more, length-drop at ms)) (sym (get_or-drop at ms 1 0) ∙ e))
    ∙ ap (λ b. eqb b byte || is_member (drop 1 (drop at ms)) byte) first
    ∙ ap (λ r. eqb (get_or ms at 0) byte || is_member r byte) rest
  where
    plus-none : (k : ℕ) → k + 0 ≡ k
    plus-none k = omega arith

pub none-at : (ms : List ℕ) (at byte : ℕ) → length ms ≤ at → is_member (drop at ms) byte ≡ false
unfolding is_member
none-at ms at byte le = ap (λ r. is_member r byte) (drop_all at ms le)

pub range-yes : (ms : List ℕ) (at byte : ℕ) → 2 < length ms - at → get_or ms (at + 1) 0 ≡ 45 → get_or ms at 0 ≤ byte → byte ≤ get_or ms (at + 2) 0 → is_member (drop at ms) byte ≡ true
range-yes ms at byte lt e lo hi =
    let a : leb (get_or ms at 0) byte ≡ true = le-leb _ _ lo in
    let b : leb byte (get_or ms (at + 2) 0) ≡ true = le-leb _ _ hi in
    range-at ms at byte lt e ∙ (rw (a, b) refl)

pub range-no : (ms : List ℕ) (at byte : ℕ) → 2 < length ms - at → get_or ms (at + 1) 0 ≡ 45 → (leb (get_or ms at 0) byte && leb byte (get_or ms (at + 2) 0)) ≡ false → is_member (drop at ms) byte ≡ is_member (drop (at + 3) ms) byte
range-no ms at byte lt e outside = range-at ms at byte lt e ∙ (rw outside refl)

pub below-no : (lo hi byte : ℕ) → byte < lo → (leb lo byte && leb byte hi) ≡ false
below-no lo hi byte lt = and_left _ _ (lt-leb lo byte lt)

pub above-no : (lo hi byte : ℕ) → hi < byte → (leb lo byte && leb byte hi) ≡ false
above-no lo hi byte lt = and_right _ _ (lt-leb byte hi lt)

pub one-yes : (ms : List ℕ) (at byte : ℕ) → at < length ms → (2 < length ms - at → get_or ms (at + 1) 0 ≢ 45) → get_or ms at 0 ≡ byte → is_member (drop at ms) byte ≡ true
one-yes ms at byte lt ne e = let t : eqb (get_or ms at 0) byte ≡ true = eq-eqb _ _ e in one-at ms at byte lt ne ∙ (rw t refl)

pub one-no : (ms : List ℕ) (at byte : ℕ) → at < length ms → (2 < length ms - at → get_or ms (at + 1) 0 ≢ 45) → get_or ms at 0 ≢ byte → is_member (drop at ms) byte ≡ is_member (drop (at + 1) ms) byte
one-no ms at byte lt ne other = let t : eqb (get_or ms at 0) byte ≡ false = ne_eqb _ _ other in one-at ms at byte lt ne ∙ (rw t refl)
