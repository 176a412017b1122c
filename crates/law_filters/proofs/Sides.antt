-- A hunk and the same turned round.
use Rattle.std.proofs.Common.{◌≡◌, ◌+◌, ◌≤◌, cond, List, [], ◌∷◌, ◌++◌, length, map, reverse, count_by, refl, sym, ap, ◌∙◌, arith}
use Rattle.std.specs.List.{prefix_len}
use Rattle.std.proofs.lemmas.List.{reverse-append, map-append}
use Rattle.std.proofs.lemmas.List.Sums.{sum_by-cons}
use Rattle.hunk_core.specs.declared.Mark.{Mark}
use Rattle.hunk_core.specs.declared.Mark.TheVariants.{Keep, Drop, Add}
use Rattle.hunk_core.specs.declared.Side.TheVariants.{Forward, Reversed}
use Rattle.hunk_core.specs.PlainHunk.{Marked, PlainHunk, old_lines, new_lines}
use Rattle.hunk_core.specs.Turned.{swapped_line, swapped, is_add, is_drop, leading, trailing}
use Rattle.hunk_place.specs.Verdicts.{adds, drops}
use Rattle.hunk_core.proofs.SideLemmas.{swapped-lines}
use Rattle.hunk_core.proofs.TurnedLemmas.{keep-swapped, mark-twice, is_kept}

pub swapped-old : (h : PlainHunk) → old_lines (swapped h).body ≡ new_lines h.body
swapped-old h = swapped-lines Forward h.body

pub swapped-new : (h : PlainHunk) → new_lines (swapped h).body ≡ old_lines h.body
swapped-new h = swapped-lines Reversed h.body

line-twice : (m : Marked) → swapped_line (swapped_line m) ≡ m
line-twice m = ap (λ (k : Mark). let x : Marked = record { mark = k; line = m.line } in x) (mark-twice m.mark)

body-twice : (ms : List Marked) → map swapped_line (map swapped_line ms) ≡ ms
body-twice [] = refl
body-twice (m ∷ ms) = ap (λ (x : Marked). x ∷ map swapped_line (map swapped_line ms)) (line-twice m) ∙ ap (λ (xs : List Marked). m ∷ xs) (body-twice ms)

pub swapped-twice : (h : PlainHunk) → swapped (swapped h) ≡ h
swapped-twice h = ap (λ (ms : List Marked). let x : PlainHunk = record { old_start = h.old_start; new_start = h.new_start; body = ms } in x) (body-twice h.body)

front-swapped : (ms : List Marked) → prefix_len is_kept (map swapped_line ms) ≡ prefix_len is_kept ms
front-swapped [] = refl
front-swapped (m ∷ ms) = let again : prefix_len is_kept (map swapped_line ms) ≡ prefix_len is_kept ms = front-swapped ms in rw (keep-swapped m.mark, again) refl

reverse-swapped : (ms : List Marked) → reverse (map swapped_line ms) ≡ map swapped_line (reverse ms)
reverse-swapped [] = refl
reverse-swapped (m ∷ ms) =
    reverse-append (swapped_line m ∷ []) (map swapped_line ms) ∙ ap (λ (xs : List Marked). xs ++ (swapped_line m ∷ [])) (reverse-swapped ms)
    ∙ sym (ap (map swapped_line) (reverse-append (m ∷ []) ms) ∙ map-append swapped_line (reverse ms) (m ∷ []))

pub swapped-leading : (h : PlainHunk) → leading (swapped h).body ≡ leading h.body
swapped-leading h = front-swapped h.body

pub swapped-trailing : (h : PlainHunk) → trailing (swapped h).body ≡ trailing h.body
swapped-trailing h = ap (prefix_len is_kept) (reverse-swapped h.body) ∙ front-swapped (reverse h.body)

-- what a body adds and drops is what its sides differ by
balance : (ms : List Marked) → length (old_lines ms) + count_by (λ m. is_add m.mark) ms ≡ length (new_lines ms) + count_by (λ m. is_drop m.mark) ms
balance [] = refl
balance (m ∷ ms) =
    by m.mark (balance ms) (sum_by-cons (λ x. cond (is_add x.mark) 1 0) m ms) (sum_by-cons (λ x. cond (is_drop x.mark) 1 0) m ms)
  where
    by : (k : Mark) → length (old_lines ms) + count_by (λ x. is_add x.mark) ms ≡ length (new_lines ms) + count_by (λ x. is_drop x.mark) ms
        → count_by (λ x. is_add x.mark) (m ∷ ms) ≡ cond (is_add k) 1 0 + count_by (λ x. is_add x.mark) ms
        → count_by (λ x. is_drop x.mark) (m ∷ ms) ≡ cond (is_drop k) 1 0 + count_by (λ x. is_drop x.mark) ms
        → let y : Marked = record { mark = k; line = m.line } in length (old_lines (y ∷ ms)) + count_by (λ x. is_add x.mark) (m ∷ ms) ≡ length (new_lines (y ∷ ms)) + count_by (λ x. is_drop x.mark) (m ∷ ms)
    by Keep again a d = omega (arith, again, a, d)
    by Drop again a d = omega (arith, again, a, d)
    by Add again a d = omega (arith, again, a, d)

pub sides-balance : (h : PlainHunk) → length (old_lines h.body) + adds h ≡ length (new_lines h.body) + drops h
sides-balance h = balance h.body

-- lines of context are old lines
pub leading-old : (ms : List Marked) → leading ms ≤ length (old_lines ms)
leading-old [] = omega arith
leading-old (m ∷ ms) = by m.mark (leading-old ms)
  where
    by : (k : Mark) → leading ms ≤ length (old_lines ms) → let y : Marked = record { mark = k; line = m.line } in leading (y ∷ ms) ≤ length (old_lines (y ∷ ms))
    by Keep again = omega (arith, again)
    by Drop again = omega arith
    by Add again = omega arith
