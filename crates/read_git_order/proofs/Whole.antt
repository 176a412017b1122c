-- An order has each file patch once.
use Rattle.std.proofs.Common.{◌≡◌, ℕ, zero, suc, ◌+◌, ◌<◌, Bool, true, false, cond, List, [], ◌∷◌, ◌++◌, Option, None, Some, length, take, drop, get_or, refl, sym, ap, subst, ◌∙◌, arith, append_assoc}
use Rattle.std.specs.Prelude.{unwrap_or}
use Rattle.std.specs.List.{position, remove}
use Rattle.std.specs.List.Sorted.{IsPermutation}
use Rattle.std.proofs.lemmas.List.{append-nil}
use Rattle.std.proofs.lemmas.List.Edits.{length-remove}
use Rattle.std.proofs.lemmas.List.Quantifiers.{position-Some}
use Rattle.std.proofs.lemmas.List.Sorted.{IsPermutation-refl, IsPermutation-trans, IsPermutation-cons, IsPermutation-middle, IsPermutation-append_left, IsPermutation-append_right}
use Rattle.std.proofs.lemmas.Option.{none-some, same_Some}
use Rattle.read_git_order.specs.declared.pieces.Piece.{Piece}
use Rattle.read_git_order.specs.Waiting.{waits}
use Rattle.read_git_order.specs.Batches.{end_at, go_on, goes_on, in_batch, in_batches, is_led, last_of, leader, next_of, taken}
use Rattle.read_git_order.proofs.Steps.{batches-cons, batches-end, leader-suc, leader-zero, taken-suc, taken-zero}

-- ---- one is taken out

cut-at : (xs : List ℕ) (k : ℕ) → k < length xs → take k xs ++ (get_or xs k 0 ∷ drop (suc k) xs) ≡ xs
cut-at [] k lt = absurd (omega (arith, lt))
cut-at (x ∷ xs) zero lt = refl
cut-at (x ∷ xs) (suc k) lt = ap (λ l. x ∷ l) (cut-at xs k (omega (arith, lt)))

out-of : (xs : List ℕ) (k : ℕ) → k < length xs → IsPermutation xs (get_or xs k 0 ∷ remove xs k)
out-of xs k lt = subst (λ l. IsPermutation l (get_or xs k 0 ∷ remove xs k)) (cut-at xs k lt) (IsPermutation-middle (take k xs) (get_or xs k 0) (drop (suc k) xs))

-- ---- the next one is one of those that are left

module _ (w : ℕ → ℕ → Bool) where
  led-within : (most : ℕ) (left : List ℕ) (k m : ℕ) → ((one j : ℕ) → position (w one) left ≡ Some j → j < length left) → k < length left → leader most w left k ≡ Some m → m < length left
  led-within zero left k m places lt is = absurd (none-some m (sym (leader-zero w left k) ∙ is))
  led-within (suc most) left k m places lt is = by (position (w (get_or left k 0)) left) refl (sym (leader-suc most w left k) ∙ is) (λ j below e. led-within most left j m places below e)
    where
      by : (r : Option ℕ) → position (w (get_or left k 0)) left ≡ r → go_on (leader most w left) k r ≡ Some m → ((j : ℕ) → j < length left → leader most w left j ≡ Some m → m < length left) → m < length left
      by None found e later = subst (λ n. n < length left) (same_Some k m e) lt
      by (Some j) found e later = later j (places (get_or left k 0) j found) e

  next-within : (left : List ℕ) → ((one j : ℕ) → position (w one) left ≡ Some j → j < length left) → 0 < length left → next_of w left < length left
  next-within left places some = by (leader (length left) w left 0) refl
    where
      by : (r : Option ℕ) → leader (length left) w left 0 ≡ r → unwrap_or r 0 < length left
      by None e = some
      by (Some m) e = led-within (length left) left 0 m places some e

  taken-whole : (n : ℕ) (left : List ℕ) → length left ≡ n → IsPermutation left (taken n w left)
  taken-whole zero [] long = subst (IsPermutation []) (sym (taken-zero w [])) (IsPermutation-refl [])
  taken-whole zero (x ∷ left) long = absurd (omega (arith, long))
  taken-whole (suc n) left long =
      let k = next_of w left in
      let lt : k < length left = next-within left (λ one j e. (position-Some (w one) left j 0 e).0) (omega (arith, long)) in
      let rest = taken-whole n (remove left k) (omega (arith, long, length-remove left k lt)) in
      subst (IsPermutation left) (sym (taken-suc n w left))
      (IsPermutation-trans left (get_or left k 0 ∷ remove left k) (get_or left k 0 ∷ taken n w (remove left k)) (out-of left k lt) (IsPermutation-cons (get_or left k 0) (remove left k) (taken n w (remove left k)) rest))

-- ---- batches

module _ (text : List ℕ) (reverse : Bool) (ps : List Piece) where
  batch-whole : (batch : List ℕ) → IsPermutation batch (in_batch text reverse ps batch)
  batch-whole batch = by (is_led (drop (end_at ps (last_of batch)) text))
    where
      by : (led : Bool) → IsPermutation batch (cond led batch (taken (length batch) (waits text reverse ps batch) batch))
      by true = IsPermutation-refl batch
      by false = taken-whole (waits text reverse ps batch) (length batch) batch refl

  pub batches-whole : (ks batch : List ℕ) → IsPermutation (batch ++ ks) (in_batches text reverse ps batch ks)
  batches-whole [] batch =
      subst (λ l. IsPermutation l (in_batches text reverse ps batch [])) (sym (append-nil batch))
      (subst (IsPermutation batch) (sym (batches-end text reverse ps batch)) (batch-whole batch))
  batches-whole (k ∷ ks) batch = subst (IsPermutation (batch ++ k ∷ ks)) (sym (batches-cons text reverse ps batch k ks)) (by (goes_on ps batch k) (batches-whole ks))
    where
      by : (goes : Bool) → ((b : List ℕ) → IsPermutation (b ++ ks) (in_batches text reverse ps b ks))
          → IsPermutation (batch ++ k ∷ ks) (cond goes [] (in_batch text reverse ps batch) ++ in_batches text reverse ps (cond goes batch [] ++ k ∷ []) ks)
      by true rest = subst (λ l. IsPermutation l (in_batches text reverse ps (batch ++ k ∷ []) ks)) (append_assoc batch (k ∷ []) ks) (rest (batch ++ k ∷ []))
      by false rest =
          IsPermutation-trans (batch ++ k ∷ ks) (in_batch text reverse ps batch ++ k ∷ ks) (in_batch text reverse ps batch ++ in_batches text reverse ps (k ∷ []) ks)
          (IsPermutation-append_left (k ∷ ks) batch (in_batch text reverse ps batch) (batch-whole batch))
          (IsPermutation-append_right (in_batch text reverse ps batch) (k ∷ ks) (in_batches text reverse ps (k ∷ []) ks) (rest (k ∷ [])))
