-- Old lines that stand at a place of a list.
use Rattle.std.proofs.Common.{◌≡◌, ℕ, zero, suc, ◌+◌, ◌-◌, ◌<◌, ◌≤◌, Bool, true, false, ◌&&◌, List, [], ◌∷◌, ◌++◌, length, get_or, drop, refl, sym, ap, ◌∙◌, arith, inl, inr}
use Rattle.std.specs.List.{list_all, range_with_len}
use Rattle.std.proofs.lemmas.Bool.{cases_eq}
use Rattle.std.proofs.lemmas.List.{get_or-drop, get_or_append_left, drop-drop, length-drop}
use Rattle.std.proofs.lemmas.Slice.Eq.{bytes_eq-Decides}
use Rattle.line_store.specs.Store.{line_at}
use Rattle.hunk_place.specs.Loose.{same_line}
use Rattle.hunk_place.specs.Placing.{fits}
use Rattle.hunk_place.proofs.FitLemmas.{fits-true}

both-true : (a b : Bool) → (a && b) ≡ true → (a ≡ true) × (b ≡ true)
both-true true b e = (refl, e)
both-true false b e = absurd (cc)

each-true : (f : ℕ → Bool) (a n k : ℕ) → list_all f (range_with_len a n) ≡ true → a ≤ k → k < a + n → f k ≡ true
each-true f a zero k e low high = absurd (omega arith)
each-true f a (suc n) k e low high =
    let both = both-true (f a) (list_all f (range_with_len (a + 1) n)) e in
    elim (cases_eq a k) [
      | inl same ↦ ap f (sym same) ∙ both.0
      | inr other ↦ each-true f (a + 1) n k both.1 (omega arith) (omega arith)
    ]

-- lists that agree up to the end of the shorter one
same-front : (old ls : List (List ℕ)) → ((i : ℕ) → i < length old → get_or old i [] ≡ get_or ls i []) → length old ≤ length ls → ls ≡ old ++ drop (length old) ls
same-front [] ls same le = refl
same-front (o ∷ old) [] same le = absurd (omega arith)
same-front (o ∷ old) (l ∷ ls) same le =
    ap (λ x. x ∷ ls) (sym (same 0 (omega arith)))
    ∙ ap (λ xs. o ∷ xs) (same-front old ls (λ i lt. same (suc i) (omega arith)) (omega arith))

index : (lines old : List (List ℕ)) (w i : ℕ) → 1 ≤ w → i < length old → fits lines old false 0 0 w ≡ true → get_or old i [] ≡ get_or (drop (w - 1) lines) i []
unfolding fits
index lines old w i low lt hit =
    let here = each-true (λ k. same_line false (line_at old k) (line_at lines (w + k - 1))) (0 + 1) (suc (length old - 0) - (0 + 1)) (i + 1) hit (omega arith) (omega arith) in
    let same : line_at old (i + 1) ≡ line_at lines (w + (i + 1) - 1) = (bytes_eq-Decides (line_at old (i + 1)) (line_at lines (w + (i + 1) - 1))).0 here in
    let a : i + 1 - 1 ≡ i = omega arith in
    let b : w + (i + 1) - 1 - 1 ≡ w - 1 + i = omega arith in
    ap (λ k. get_or old k []) (sym a) ∙ same ∙ ap (λ k. get_or lines k []) b ∙ sym (get_or-drop (w - 1) lines i [])

-- where old lines fit, the list goes on with them
pub fits-on : (lines old : List (List ℕ)) (w : ℕ) → 1 ≤ w → w + length old ≤ length lines + 1 → fits lines old false 0 0 w ≡ true → drop (w - 1) lines ≡ old ++ drop (w - 1 + length old) lines
fits-on lines old w low high hit =
    same-front old (drop (w - 1) lines) (λ i lt. index lines old w i low lt hit) (omega (arith, length-drop (w - 1) lines))
    ∙ ap (λ ls. old ++ ls) (drop-drop (length old) (w - 1) lines)

-- where the list goes on with old lines, they fit
pub on-fits : (lines old rest : List (List ℕ)) (w : ℕ) → 1 ≤ w → drop (w - 1) lines ≡ old ++ rest → fits lines old false 0 0 w ≡ true
on-fits lines old rest w low on = fits-true lines old false 0 0 w (λ k from room. at k from room)
  where
    at : (k : ℕ) → 0 < k → k + 0 ≤ length old → same_line false (line_at old k) (line_at lines (w + k - 1)) ≡ true
    at k from room =
        let b : w + k - 1 - 1 ≡ w - 1 + (k - 1) = omega arith in
        let there : line_at lines (w + k - 1) ≡ line_at old k =
        ap (λ i. get_or lines i []) b ∙ sym (get_or-drop (w - 1) lines (k - 1) []) ∙ ap (λ ls. get_or ls (k - 1) []) on ∙ get_or_append_left old rest [] (k - 1) (omega arith) in
        (bytes_eq-Decides (line_at old k) (line_at lines (w + k - 1))).1 (sym there)
