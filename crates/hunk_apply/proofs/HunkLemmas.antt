-- A hunk as one step of the fold.
use Rattle.std.proofs.Common.{◌≡◌, ℕ, ◌+◌, ◌≤◌, List, [], ◌∷◌, length, reverse, map, count_by, Bool, cond, refl, sym, ap, ◌∙◌, arith}
use Rattle.std.specs.List.{prefix_len}
use Rattle.std.proofs.lemmas.List.Sums.{sum_by-cons}
use Rattle.hunk_core.specs.declared.Mark.{Mark}
use Rattle.hunk_core.specs.declared.Mark.TheVariants.{Keep, Drop, Add}
use Rattle.hunk_core.specs.declared.Side.{Side}
use Rattle.hunk_core.specs.declared.HunkLine.{HunkLine}
use Rattle.hunk_core.specs.declared.Hunk.{Hunk}
use Rattle.hunk_core.specs.Sides.{taken_count}
use Rattle.hunk_core.specs.PlainHunk.{Marked, old_lines}
use Rattle.hunk_core.specs.Turned.{is_add, is_drop, trailing, taken_mark}
use Rattle.hunk_core.proofs.TurnedLemmas.{is_kept_line}
use Rattle.hunk_place.specs.Taken.{taken}
use Rattle.hunk_place.specs.Verdicts.{adds, drops}
use Rattle.hunk_place.proofs.FitLemmas.{taken-length}
use Rattle.hunk_place.proofs.TakenLemmas.{lines-are, taken-trailing}
use Rattle.hunk_apply.specs.Body.{side_marked}
use Rattle.hunk_apply.specs.Splice.{body_edits}
use Rattle.hunk_apply.proofs.BodyLemmas.{body-is, edits-none, edits-mark, post-old}

count-map : (p : Marked → Bool) (f : HunkLine → Marked) (ls : List HunkLine) → count_by p (map f ls) ≡ count_by (λ l. p (f l)) ls
count-map p f [] = refl
count-map p f (l ∷ ls) =
    sum_by-cons (λ m. cond (p m) 1 0) (f l) (map f ls) ∙ ap (λ n. cond (p (f l)) 1 0 + n) (count-map p f ls)
    ∙ sym (sum_by-cons (λ x. cond (p (f x)) 1 0) l ls)

pub adds-are : (text : List ℕ) (side : Side) (h : Hunk) → adds (taken text side h) ≡ count_by (λ l. is_add (taken_mark side l.mark)) h.body.items
adds-are text side h = ap (count_by (λ m. is_add m.mark)) (body-is text side h) ∙ count-map (λ m. is_add m.mark) (side_marked text side) h.body.items

pub drops-are : (text : List ℕ) (side : Side) (h : Hunk) → drops (taken text side h) ≡ count_by (λ l. is_drop (taken_mark side l.mark)) h.body.items
drops-are text side h = ap (count_by (λ m. is_drop m.mark)) (body-is text side h) ∙ count-map (λ m. is_drop m.mark) (side_marked text side) h.body.items

-- a body that changes nothing has no edits
pub no-edits : (ms : List Marked) (at : ℕ) → count_by (λ m. is_add m.mark) ms ≡ 0 → count_by (λ m. is_drop m.mark) ms ≡ 0 → body_edits at ms ≡ []
no-edits [] at a d = edits-none at
no-edits (m ∷ ms) at a d =
    by m.mark (sym (sum_by-cons (λ x. cond (is_add x.mark) 1 0) m ms) ∙ a) (sym (sum_by-cons (λ x. cond (is_drop x.mark) 1 0) m ms) ∙ d) (no-edits ms (at + 1))
  where
    by : (k : Mark) → cond (is_add k) 1 0 + count_by (λ x. is_add x.mark) ms ≡ 0 → cond (is_drop k) 1 0 + count_by (λ x. is_drop x.mark) ms ≡ 0 → (count_by (λ x. is_add x.mark) ms ≡ 0 → count_by (λ x. is_drop x.mark) ms ≡ 0 → body_edits (at + 1) ms ≡ [])
        → let y : Marked = record { mark = k; line = m.line } in body_edits at (y ∷ ms) ≡ []
    by Keep a d again = edits-mark at Keep m.line ms ∙ again (omega arith) (omega arith)
    by Drop a d again = absurd (omega arith)
    by Add a d again = absurd (omega arith)

pub old-length : (text : List ℕ) (side : Side) (h : Hunk) → length (old_lines (taken text side h).body) ≡ taken_count side h.body.items
old-length text side h = ap length (sym (lines-are text side h)) ∙ taken-length text side h

pub trailing-old : (text : List ℕ) (side : Side) (h : Hunk) → trailing (taken text side h).body ≤ length (old_lines (taken text side h).body)
trailing-old text side h =
    let n : length (old_lines (taken text side h).body) ≡ taken_count side h.body.items = old-length text side h in
    let m : trailing (taken text side h).body ≡ prefix_len is_kept_line (reverse h.body.items) = taken-trailing text side h in
    let old : prefix_len is_kept_line (reverse h.body.items) ≤ taken_count side h.body.items = post-old side h.body.items in
    omega arith
