-- A line that goes on over pieces.
use Rattle.std.proofs.Common.{◌≡◌, ◌≢◌, ℕ, zero, suc, false, eqb, ◌+◌, ◌-◌, ◌<◌, ◌≤◌, eq-eqb, List, [], ◌∷◌, length, get_or, take, drop, sym, ap, ◌∙◌, arith, min, inl, inr, length-drop}
use Rattle.std.proofs.lemmas.Bool.{eqb-true, cases_lt}
use Rattle.std.proofs.lemmas.List.{take_rest, drop-drop, length-take, get_or-drop}
use Rattle.std.specs.List.{slice_range}
use Rattle.memchr.specs.Find.{Passes, is_byte, Nowhere, NoneBefore}
use Rattle.line_list.specs.Lines.{lines, with_first}
use Rattle.line_list.proofs.LineLemmas.{Clean, lines-first, lines-last, lines-end}
use Rattle.page_pair.specs.Records.{longest}
use Rattle.page_pair.specs.Reading.{IsOpen}
use Rattle.page_pair.proofs.Windows.{part-at}

-- a byte of a piece, behind what was read of the line
piece-at : (text : List ℕ) (at end n j : ℕ) → at ≤ end → j < n → get_or (take n (drop end text)) j 0 ≡ get_or (drop at text) (end - at + j) 0
piece-at text at end n j le lt =
    let e : end + j ≡ at + (end - at + j) = omega arith in
    part-at n end j 0 text lt ∙ ap (λ k. get_or text k 0) e ∙ sym (get_or-drop at text (end - at + j) 0)

piece-length : (text : List ℕ) (end n : ℕ) → end + n ≤ length text → length (take n (drop end text)) ≡ n
piece-length text end n le = let a : length (take n (drop end text)) ≡ min n (length (drop end text)) = length-take n (drop end text) in let b : length (drop end text) ≡ length text - end = length-drop end text in omega arith

-- no feed before a place of the piece
open-more : (text : List ℕ) (at end n k : ℕ) → at ≤ end → k ≤ n → IsOpen text at end → ((j : ℕ) → j < k → get_or (take n (drop end text)) j 0 ≢ 10) → Clean (drop at text) (end - at + k)
open-more text at end n k le high was none i lt e = elim (cases_lt i (end - at)) [
  | inl before ↦ was.each i before e
  | inr after ↦
      let j : ℕ = i - (end - at) in
      let same : end - at + (i - (end - at)) ≡ i = omega arith in
      none (i - (end - at)) (omega arith) (piece-at text at end n (i - (end - at)) le (omega arith) ∙ ap (λ m. get_or (drop at text) m 0) same ∙ e)
]

pub open-none : (text hay : List ℕ) (at end n : ℕ) → hay ≡ take n (drop end text) → at ≤ end → end + n ≤ length text → IsOpen text at end → Nowhere (Passes (is_byte 10) hay) 0 (length hay) → IsOpen text at (end + n)
open-none text hay at end n is le within was none =
    let len : length hay ≡ n = ap length is ∙ piece-length text end n within in
    record { each = λ i lt. open-more text at end n n le (omega arith) was (λ j h e. none j (omega arith) (omega arith) (eq-eqb _ _ (ap (λ l. get_or l j 0) is ∙ e))) i (omega arith) }

pub open-some : (text hay : List ℕ) (at end n k : ℕ) → hay ≡ take n (drop end text) → at ≤ end → end + n ≤ length text → IsOpen text at end → NoneBefore (Passes (is_byte 10) hay) 0 (length hay) k → Passes (is_byte 10) hay k → lines (drop at text) ≡ slice_range text at (end + k + 1) ∷ lines (drop (end + k + 1) text)
open-some text hay at end n k is le within was first passes =
    let len : length hay ≡ n = ap length is ∙ piece-length text end n within in
    let high : k < length hay = first.high in
    let left : length (drop at text) ≡ length text - at = length-drop at text in
    let here : get_or (drop at text) (end - at + k) 0 ≡ 10 = sym (piece-at text at end n k le (omega arith)) ∙ ap (λ l. get_or l k 0) (sym is) ∙ eqb-true _ _ passes in
    let clean : Clean (drop at text) (end - at + k) = open-more text at end n k le (omega arith) was (λ j h e. first.before j (omega arith) h (eq-eqb _ _ (ap (λ l. get_or l j 0) is ∙ e))) in
    let width : suc (end - at + k) ≡ end + k + 1 - at = omega arith in
    let far : at + suc (end - at + k) ≡ end + k + 1 = omega arith in
    lines-first (drop at text) (end - at + k) (omega arith) here clean
    ∙ ap (λ m. take m (drop at text) ∷ lines (drop (suc (end - at + k)) (drop at text))) width
    ∙ ap (λ l. slice_range text at (end + k + 1) ∷ lines l) (drop-drop (suc (end - at + k)) at text ∙ ap (λ m. drop m text) far)

pub open-end : (text : List ℕ) (at end : ℕ) → end ≡ length text → at < end → IsOpen text at end → lines (drop at text) ≡ slice_range text at end ∷ lines (drop end text)
open-end text at end e lt was =
    let left : length (drop at text) ≡ length text - at = length-drop at text in
    lines-last (drop at text) (omega arith) (λ i h. was.each i (omega arith))
    ∙ ap (λ l. l ∷ []) (sym (take_rest text at))
    ∙ ap (λ n. take (n - at) (drop at text) ∷ []) (sym e)
    ∙ ap (λ l. slice_range text at end ∷ l) (sym (lines-end text end e))

-- the length of the first line
abbrev first_length : List (List ℕ) → ℕ
first_length [] = 0
first_length (line ∷ more) = length line

first_more : (b : ℕ) (ls : List (List ℕ)) → first_length (with_first b ls) ≡ first_length ls + 1
first_more b [] = omega arith
first_more b (line ∷ more) = omega arith

first_most : (ls : List (List ℕ)) → first_length ls ≤ longest ls
first_most [] = omega arith
first_most (line ∷ more) = omega arith

-- a line has no line feed before its last byte
first-wide : (s : List ℕ) (n : ℕ) → n ≤ length s → ((i : ℕ) → i < n → get_or s i 0 ≢ 10) → n ≤ first_length (lines s)
unfolding lines
first-wide [] n le none = omega arith
first-wide (b ∷ bs) zero le none = omega arith
first-wide (b ∷ bs) (suc n) le none =
    let ne : eqb b 10 ≡ false = grind (arith, none 0 (omega arith)) in
    let more : n ≤ first_length (lines bs) = first-wide bs n (omega arith) (λ i lt. none (suc i) (omega arith)) in
    let one : first_length (with_first b (lines bs)) ≡ first_length (lines bs) + 1 = first_more b (lines bs) in
    rw ne (omega arith)

pub open-wide : (text : List ℕ) (at n : ℕ) → at + n ≤ length text → IsOpen text at (at + n) → n ≤ longest (lines (drop at text))
open-wide text at n le open_ =
    let left : length (drop at text) ≡ length text - at = length-drop at text in
    let wide : n ≤ first_length (lines (drop at text)) = first-wide (drop at text) n (omega arith) (λ i lt. open_.each i (omega arith)) in
    let most : first_length (lines (drop at text)) ≤ longest (lines (drop at text)) = first_most (lines (drop at text)) in
    omega arith
