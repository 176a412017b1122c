-- The first line that is too long.
use Rattle.std.proofs.Common.{◌≡◌, ℕ, zero, suc, ◌+◌, ◌-◌, ◌<◌, ◌≤◌, ◌^◌, Bool, true, false, List, [], length, get_or, refl, ap, ◌∙◌, arith, Some, None}
use Rattle.std.specs.Prelude.{nat_le, find}
use Rattle.std.specs.List.{range_with_len}
use Rattle.std.proofs.lemmas.Bool.Decides.{nat_tests}
use Rattle.line_store.specs.Store.{line_at}
use Rattle.line_store.specs.Taking.{first_long, is_long}
use Rattle.line_store.specs.declared.fault.OpenFault.TheVariants.{LongLine}
use Rattle.line_list.specs.Lines.{lines}
use Rattle.plan_a.specs.Cut.{IsFirstLong}
use Rattle.plan_a.specs.Taken.{IsCutFault}

find-more : (p : ℕ → Bool) (a n : ℕ) → 0 < n → p a ≡ false → find p (range_with_len a n) ≡ find p (range_with_len (a + 1) (n - 1))
find-more p a zero lt e = absurd (omega arith)
find-more p a (suc n) lt e = let m : suc n - 1 ≡ n = omega arith in rw (e, m) refl

find-here : (p : ℕ → Bool) (a n : ℕ) → 0 < n → p a ≡ true → find p (range_with_len a n) ≡ Some a
find-here p a zero lt e = absurd (omega arith)
find-here p a (suc n) lt e = rw e refl

find-none : (p : ℕ → Bool) (a n : ℕ) → n ≡ 0 → find p (range_with_len a n) ≡ None
find-none p a zero e = refl
find-none p a (suc n) e = absurd (omega arith)

-- none of the first k lines is too long
pub record NoneLong (size : ℕ) (ls : List (List ℕ)) (k : ℕ) : Type 0 where
  pub left : first_long size ls ≡ find (is_long size ls) (range_with_len (k + 1) (length ls - k))

pub none-start : (size : ℕ) (ls : List (List ℕ)) → NoneLong size ls 0
unfolding first_long
none-start size ls = record { left = let e : length ls - 0 ≡ length ls = omega arith in rw e refl }

line-is : (ls : List (List ℕ)) (k : ℕ) → line_at ls (k + 1) ≡ get_or ls k []
line-is ls k = let e : k + 1 - 1 ≡ k = omega arith in ap (λ n. get_or ls n []) e

pub none-more : (size : ℕ) (ls : List (List ℕ)) (k n : ℕ) → NoneLong size ls k → k < length ls → length (get_or ls k []) ≡ n → n ≤ size - 4 → NoneLong size ls (k + 1)
none-more size ls k n h lt e short =
    let len : length (line_at ls (k + 1)) ≡ n = ap length (line-is ls k) ∙ e in
    let t : is_long size ls (k + 1) ≡ false = grind (arith, nat_tests) in
    let m : length ls - k - 1 ≡ length ls - (k + 1) = omega arith in
    record { left = h.left ∙ find-more (is_long size ls) (k + 1) (length ls - k) (omega arith) t ∙ ap (λ j. find (is_long size ls) (range_with_len (k + 1 + 1) j)) m }

pub none-here : (size : ℕ) (ls : List (List ℕ)) (k n : ℕ) → NoneLong size ls k → k < length ls → length (get_or ls k []) ≡ n → size - 4 < n → IsFirstLong size ls (k + 1) n
none-here size ls k n h lt e long =
    let len : length (line_at ls (k + 1)) ≡ n = ap length (line-is ls k) ∙ e in
    let t : is_long size ls (k + 1) ≡ true = grind (arith, nat_tests) in
    record { is = h.left ∙ find-here (is_long size ls) (k + 1) (length ls - k) (omega arith) t; bytes = len; long = long }

pub none-end : (size : ℕ) (ls : List (List ℕ)) (k : ℕ) → NoneLong size ls k → k ≡ length ls → first_long size ls ≡ None
none-end size ls k h e = h.left ∙ find-none (is_long size ls) (k + 1) (length ls - k) (omega arith)

-- then the text is refused
pub refused : (size line n : ℕ) (text : List ℕ) → length text < 2 ^ 40 → IsFirstLong size (lines text) line n → IsCutFault size text (LongLine line n)
refused size line n text lt h = (h.long, let t : nat_le (2 ^ 40) (length text) ≡ false = grind (arith, nat_tests) in rw (t, h.is, h.bytes) refl)
