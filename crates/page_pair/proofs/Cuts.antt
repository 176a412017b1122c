-- Whole lines of a piece, and of the text where it stands.
use Rattle.std.proofs.Common.{◌≡◌, ℕ, suc, ◌+◌, ◌-◌, ◌<◌, ◌≤◌, Bool, true, eq-eqb, List, [], ◌∷◌, ◌++◌, length, get_or, take, drop, refl, sym, ap, ◌∙◌, arith, append-nil, length-append, length-drop}
use Rattle.std.proofs.lemmas.Bool.{eqb-true}
use Rattle.std.proofs.lemmas.List.{take_rest, drop_all, drop-drop, drop-append-le, take-append-le, length-take}
use Rattle.std.proofs.Math.ListN.{get_or-append}
use Rattle.std.specs.List.{slice_range}
use Rattle.memchr.specs.Find.{Passes, is_byte, Nowhere, NoneBefore}
use Rattle.line_list.specs.Lines.{lines}
use Rattle.line_list.proofs.LineLemmas.{Clean, lines-first, lines-last, lines-end}
use Rattle.page_pair.specs.Reading.{IsPart, IsWhole, IsNoneWhole}

-- the first line of a text ends with its first line feed, whatever follows
pub feed-first : (s rest : List ℕ) (k : ℕ) → k < length s → get_or s k 0 ≡ 10 → Clean s k → lines (s ++ rest) ≡ take (suc k) s ∷ lines (drop (suc k) s ++ rest)
feed-first s rest k lt here before =
    let len : length (s ++ rest) ≡ length s + length rest = length-append s rest in
    lines-first (s ++ rest) k (omega arith) (get_or-append s rest 0 k lt ∙ here) (λ i h e. before i h (sym (get_or-append s rest 0 i (omega arith)) ∙ e))
    ∙ ap (λ l. l ∷ lines (drop (suc k) (s ++ rest))) (take-append-le (suc k) s rest (omega arith))
    ∙ ap (λ l. take (suc k) s ∷ lines l) (drop-append-le (suc k) s rest (omega arith))

pub whole-feed : (piece : List ℕ) (last : Bool) (at k : ℕ) → at ≤ length piece → NoneBefore (Passes (is_byte 10) (drop at piece)) 0 (length (drop at piece)) k → Passes (is_byte 10) (drop at piece) k → IsWhole piece last at (at + k + 1)
whole-feed piece last at k le first passes =
    let len : length (drop at piece) ≡ length piece - at = length-drop at piece in
    let high : k < length (drop at piece) = first.high in
    let here : get_or (drop at piece) k 0 ≡ 10 = eqb-true _ _ passes in
    let before : Clean (drop at piece) k = λ i lt e. first.before i (omega arith) lt (eq-eqb _ _ e) in
    let width : (at + k + 1) - at ≡ suc k = omega arith in
    let far : at + suc k ≡ at + k + 1 = omega arith in
    record {
      low = omega arith;
      high = omega arith;
      first = λ rest is. feed-first (drop at piece) rest k high here before
          ∙ ap (λ n. take n (drop at piece) ∷ lines (drop (suc k) (drop at piece) ++ rest)) (sym width)
          ∙ ap (λ l. slice_range piece at (at + k + 1) ∷ lines (l ++ rest)) (drop-drop (suc k) at piece ∙ ap (λ n. drop n piece) far);
    }

pub whole-open : (piece : List ℕ) (last : Bool) (at : ℕ) → last ≡ true → at < length piece → Nowhere (Passes (is_byte 10) (drop at piece)) 0 (length (drop at piece)) → IsWhole piece last at (length piece)
whole-open piece last at is lt none =
    let len : length (drop at piece) ≡ length piece - at = length-drop at piece in
    let one : lines (drop at piece) ≡ drop at piece ∷ [] = lines-last (drop at piece) (omega arith) (λ i h e. none i (omega arith) h (eq-eqb _ _ e)) in
    record {
      low = omega arith;
      high = omega arith;
      first = λ rest none.
          rw (none is, append-nil (drop at piece), append-nil (drop (length piece) piece), take_rest piece at, lines-end piece (length piece) refl) one;
    }

pub none-whole : (piece : List ℕ) (last : Bool) (at : ℕ) → at ≤ length piece → (last ≡ true → length piece ≤ at) → Nowhere (Passes (is_byte 10) (drop at piece)) 0 (length (drop at piece)) → IsNoneWhole piece last at
none-whole piece last at le h none = record {
  last = λ is. let f : length piece ≤ at = h is in omega arith;
  open_ = record { each = λ i lt e. none i (omega arith) lt (eq-eqb _ _ e) };
}

-- what a text holds from a place of a piece on
pub part-left : (text piece : List ℕ) (start : ℕ) (last : Bool) (at : ℕ) → IsPart text piece start last → at ≤ length piece → drop (start + at) text ≡ drop at piece ++ drop (start + length piece) text
part-left text piece start last at part le = sym (drop-drop at start text) ∙ ap (drop at) part.is ∙ drop-append-le at piece (drop (start + length piece) text) le

-- nothing follows the last piece
pub part-rest : (text piece : List ℕ) (start : ℕ) (last : Bool) → IsPart text piece start last → last ≡ true → drop (start + length piece) text ≡ []
part-rest text piece start last part is = let e : start + length piece ≡ length text = part.last is in drop_all (start + length piece) text (omega arith)

-- a whole line of a piece is one of the text
pub part-line : (text piece : List ℕ) (start : ℕ) (last : Bool) (at end : ℕ) → IsPart text piece start last → IsWhole piece last at end → lines (drop (start + at) text) ≡ slice_range piece at end ∷ lines (drop (start + end) text)
part-line text piece start last at end part whole =
    let low : at < end = whole.low in
    let high : end ≤ length piece = whole.high in
    ap lines (part-left text piece start last at part (omega arith))
    ∙ whole.first (drop (start + length piece) text) (part-rest text piece start last part)
    ∙ ap (λ l. slice_range piece at end ∷ lines l) (sym (part-left text piece start last end part high))

pub slice-length : (piece : List ℕ) (at end : ℕ) → at ≤ end → end ≤ length piece → length (slice_range piece at end) ≡ end - at
slice-length piece at end low high = simp (length-take, length-drop) (omega arith)
