-- A hunk with a text behind its ranges is read as its canonical text is.
use Rattle.std.proofs.Common.{◌≡◌, ◌≢◌, ℕ, List, [], ◌∷◌, ◌++◌, map, None, refl, sym, ap, subst, ◌∙◌, append_assoc}
use Rattle.std.specs.List.{AllByRecursion, flat_map}
use Rattle.std.proofs.lemmas.List.Concat.{flat_map-cons}
use Rattle.line_list.specs.Lines.{lines}
use Rattle.line_list.proofs.WholeLines.{lines-whole}
use Rattle.hunk_core.specs.declared.Hunk.{Hunk}
use Rattle.hunk_core.specs.declared.Side.TheVariants.{Forward, Reversed}
use Rattle.hunk_core.specs.LineTests.{after_backslash}
use Rattle.hunk_core.specs.PlainHunk.{Marked, PlainHunk, body_of, hunk_of}
use Rattle.hunk_core.specs.Rules.{HasNoInnerFeed, first_broken}
use Rattle.hunk_core.specs.Sides.{taken_count}
use Rattle.hunk_core.specs.Turned.{taken_line}
use Rattle.unified_form.specs.Grammar.{IsPiece, SpellsHunk, counts_of}
use Rattle.unified_form.specs.Canonical.{SpellsFirst, line_text, range_text, ranges_text, shown}
use Rattle.unified_form.proofs.Again.{begins-with, is-hunk}
use Rattle.unified_form.proofs.Canonical.{IsHunk, body-joined, body-lines, body-spelled, body_lines, both, clean, closes, line-prefix, range-clean, range-spelled}
use Rattle.unified_form.proofs.Counts.{counts-new, counts-old}
use Rattle.hunk_core.proofs.SideLemmas.{lines-counted}

-- ---- what is written

taken-same : (body : List Marked) → map (taken_line Forward) body ≡ body
taken-same [] = refl
taken-same (m ∷ body) = ap (λ ms. m ∷ ms) (taken-same body)

pub shown-text : (text behind : List ℕ) (h : Hunk) (old new : ℕ) → old ≡ taken_count Forward h.body.items → new ≡ taken_count Reversed h.body.items
    → (ranges_text h.old_start old h.new_start new ++ (behind ++ 10 ∷ [])) ++ flat_map line_text (map (taken_line Forward) (body_of text h.body.items)) ≡ shown behind (hunk_of text h)
shown-text text behind h old new count count2 =
    let body = body_of text h.body.items in
    let first : old ≡ (counts_of body).old = count ∙ sym (lines-counted text Forward h.body.items) ∙ sym (counts-old body) in
    let second : new ≡ (counts_of body).new = count2 ∙ sym (lines-counted text Reversed h.body.items) ∙ sym (counts-new body) in
    ap (λ n. (ranges_text h.old_start n h.new_start new ++ (behind ++ 10 ∷ [])) ++ flat_map line_text (map (taken_line Forward) body)) first
    ∙ ap (λ n. (ranges_text h.old_start (counts_of body).old h.new_start n ++ (behind ++ 10 ∷ [])) ++ flat_map line_text (map (taken_line Forward) body)) second
    ∙ ap (λ ms. (ranges_text h.old_start (counts_of body).old h.new_start (counts_of body).new ++ (behind ++ 10 ∷ [])) ++ flat_map line_text ms) (taken-same body)

-- the ranges, piece by piece
pub ranges-pieces : (t0 t1 t2 t3 t4 t5 old new : List ℕ) → t0 ≡ [] → t1 ≡ t0 ++ (64 ∷ 64 ∷ 32 ∷ 45 ∷ []) → t2 ≡ t1 ++ old → t3 ≡ t2 ++ (32 ∷ 43 ∷ []) → t4 ≡ t3 ++ new → t5 ≡ t4 ++ (32 ∷ 64 ∷ 64 ∷ [])
    → t5 ≡ (64 ∷ 64 ∷ 32 ∷ 45 ∷ []) ++ (old ++ ((32 ∷ 43 ∷ []) ++ (new ++ (32 ∷ 64 ∷ 64 ∷ []))))
ranges-pieces t0 t1 t2 t3 t4 t5 old new none before first between second behind = rw (behind, second, between, first, before, none) (simp append_assoc)

-- ---- the lines

abbrev ranges_in : PlainHunk → List ℕ
ranges_in h = ranges_text h.old_start (counts_of h.body).old h.new_start (counts_of h.body).new

abbrev shown_lines : List ℕ → PlainHunk → List (List ℕ)
shown_lines behind h = (ranges_in h ++ (behind ++ 10 ∷ [])) ∷ body_lines h.body

spread : (old new rest : List ℕ) → ((64 ∷ 64 ∷ 32 ∷ 45 ∷ []) ++ (old ++ ((32 ∷ 43 ∷ []) ++ (new ++ (32 ∷ 64 ∷ 64 ∷ []))))) ++ rest ≡ (64 ∷ 64 ∷ 32 ∷ 45 ∷ []) ++ (old ++ ((32 ∷ 43 ∷ []) ++ (new ++ ((32 ∷ 64 ∷ 64 ∷ []) ++ rest))))
spread old new rest = simp append_assoc

ranges-clean : (a b c d : ℕ) → AllByRecursion (λ x. x ≢ 10) (ranges_text a b c d)
ranges-clean a b c d =
    both (64 ∷ 64 ∷ 32 ∷ 45 ∷ []) _ (clean (64 ∷ 64 ∷ 32 ∷ 45 ∷ []) refl)
    (both (range_text a b) _ (range-clean a b)
    (both (32 ∷ 43 ∷ []) _ (clean (32 ∷ 43 ∷ []) refl)
    (both (range_text c d) _ (range-clean c d) (clean (32 ∷ 64 ∷ 64 ∷ []) refl))))

shown-spelled : (behind : List ℕ) (h : PlainHunk) → IsHunk 0 h → SpellsHunk 0 (shown_lines behind h) h
shown-spelled behind h is = (
  record {
    old = range_text h.old_start (counts_of h.body).old;
    new = range_text h.new_start (counts_of h.body).new;
    rest = behind ++ 10 ∷ [];
    parts = spread (range_text h.old_start (counts_of h.body).old) (range_text h.new_start (counts_of h.body).new) (behind ++ 10 ∷ []);
    old_range = range-spelled h.old_start (counts_of h.body).old;
    new_range = range-spelled h.new_start (counts_of h.body).new;
  },
  is.ranges,
  body-spelled h.body is.body,
)

joined-is : (behind : List ℕ) (h : PlainHunk) → flat_map (λ line. line) (shown_lines behind h) ≡ shown behind h
joined-is behind h = flat_map-cons (λ line. line) (ranges_in h ++ (behind ++ 10 ∷ [])) (body_lines h.body) ∙ ap (λ bs. (ranges_in h ++ (behind ++ 10 ∷ [])) ++ bs) (body-joined h.body)

text-lines : (behind : List ℕ) (h : PlainHunk) (rest : List ℕ) → AllByRecursion (λ b. b ≢ 10) behind → IsHunk 0 h → lines (shown behind h ++ rest) ≡ shown_lines behind h ++ lines rest
text-lines behind h rest quiet is =
    ap (λ bs. lines (bs ++ rest)) (sym (joined-is behind h))
    ∙ lines-whole (shown_lines behind h) rest (line-prefix (ranges_in h) (behind ++ 10 ∷ []) (ranges-clean h.old_start (counts_of h.body).old h.new_start (counts_of h.body).new) (closes behind quiet), body-lines h.body is.body)

-- ---- the hunk

pub shown-first : (behind : List ℕ) (h : PlainHunk) (rest : List ℕ) → AllByRecursion (λ b. b ≢ 10) behind → first_broken h ≡ None → AllByRecursion HasNoInnerFeed h.body → after_backslash (lines rest) ≡ None → SpellsFirst h (shown behind h) rest
shown-first behind h rest quiet unbroken cleanly silent =
    let is = is-hunk h unbroken cleanly in
    let parts = text-lines behind h rest quiet is in
    let spelled = shown-spelled behind h is in
    record {
      own = shown_lines behind h;
      parts = parts;
      spelled = spelled;
      first = λ number next hs after piece. begins-with h (shown_lines behind h) (lines rest) number next hs after spelled silent (subst (λ ls. IsPiece number ls hs next after) parts piece);
    }
