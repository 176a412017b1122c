-- Where bytes of a kind stand.
use Rattle.std.proofs.Common.{◌≡◌, ℕ, ◌<◌, Bool, true, false, ltb, not, ◌||◌, eqb, List, [], ◌∷◌, length, get_or, Option, None, Some, refl, sym, ap, ◌∙◌, arith}
use Rattle.std.specs.List.{position, position_or_len}
use Rattle.std.proofs.lemmas.List.Sums.{position_or_len_is}
use Rattle.std.specs.Prelude.{unwrap_or, ◌==◌}
use Rattle.bstr.specs.Bytes.{is_in, not_in}
use Rattle.bstr.specs.Find.{IsFirstByte}
use Rattle.patch_header.specs.Values.{is_blank, is_white, first, bare_length}

is_false : (v : Bool) → ¬ (v ≡ true) → v ≡ false
is_false true h = absurd (h refl)
is_false false h = refl

-- the first byte that passes stands where it was found, also by a test that tells the same
pub same_position : (test other : ℕ → Bool) (bytes : List ℕ) (r : Option ℕ) → ((b : ℕ) → test b ≡ other b) → IsFirstByte test bytes r → r ≡ position other bytes
same_position test other bytes None same h =
    let all : position_or_len other bytes ≡ length bytes = position_or_len_is other bytes (length bytes) 0 (omega arith) (λ k lt. sym (same (get_or bytes k 0)) ∙ is_false (test (get_or bytes k 0)) (h k (omega arith) lt)) (λ lt. absurd (omega arith)) in
    let end : ltb (length bytes) (length bytes) ≡ false = grind arith in
    rw (all, end) refl
same_position test other bytes (Some k) same h =
    let high : k < length bytes = h.0.high in
    let here : position_or_len other bytes ≡ k = position_or_len_is other bytes k 0 (omega arith) (λ i lt. sym (same (get_or bytes i 0)) ∙ is_false (test (get_or bytes i 0)) (h.0.before i (omega arith) lt)) (λ lt. sym (same (get_or bytes k 0)) ∙ h.1) in
    let inside : ltb k (length bytes) ≡ true = grind arith in
    rw (here, inside) refl

pub is_position : (test : ℕ → Bool) (bytes : List ℕ) (r : Option ℕ) → IsFirstByte test bytes r → r ≡ position test bytes
is_position test bytes r h = same_position test test bytes r (λ b. refl) h

or_false : (v : Bool) → v || false ≡ v
or_false true = refl
or_false false = refl

pub unblank_test : (b : ℕ) → not_in (32 ∷ 9 ∷ []) b ≡ not (is_blank b)
unfolding is_in
unblank_test b = rw or_false refl

pub white_test : (b : ℕ) → is_in (32 ∷ 9 ∷ 10 ∷ 11 ∷ 12 ∷ 13 ∷ []) b ≡ is_white b
unfolding is_in
white_test b = by (eqb b 32) (eqb b 9) (eqb b 10) (eqb b 11) (eqb b 12) (eqb b 13)
  where
    by : (u v w x y z : Bool) → u || (v || (w || (x || (y || (z || false))))) ≡ (u || v) || (((w || x) || y) || z)
    by true v w x y z = refl
    by false true w x y z = refl
    by false false true x y z = refl
    by false false false true y z = refl
    by false false false false true z = refl
    by false false false false false true = refl
    by false false false false false false = refl

-- so the first byte that passes, or the end, stands there
pub is_first : (test other : ℕ → Bool) (bytes : List ℕ) (r : Option ℕ) → ((b : ℕ) → test b ≡ other b) → IsFirstByte test bytes r → unwrap_or r (length bytes) ≡ first other bytes
is_first test other bytes r same h = ap (λ x. unwrap_or x (length bytes)) (same_position test other bytes r same h)

-- where no first byte is found, or it is found here
pub is_bare_length : (bytes : List ℕ) (tab space : Option ℕ) → IsFirstByte (λ b. b == 9) bytes tab → IsFirstByte (λ b. b == 32) bytes space → unwrap_or tab (unwrap_or space (length bytes)) ≡ bare_length bytes
is_bare_length bytes tab space h k = rw (← is_position (λ b. b == 9) bytes tab h, ← is_position (λ b. b == 32) bytes space k) refl

pub is_tab_first : (bytes : List ℕ) (k : ℕ) → IsFirstByte (λ b. b == 9) bytes (Some k) → k ≡ bare_length bytes
is_tab_first bytes k h = rw (← is_position (λ b. b == 9) bytes (Some k) h) refl
