-- Writing a hunk line by line.
use Rattle.std.proofs.Common.{◌≡◌, Bool, cond, ℕ, ◌+◌, ◌≤◌, ◌<◌, List, [], ◌∷◌, ◌++◌, length, get_or, take, drop, map, slice_range, sym, ap, ◌∙◌, append_assoc}
use Rattle.std.specs.List.{flat_map}
use Rattle.std.proofs.lemmas.List.{take_more, map_push, map-append, flat_map_more, take-append-drop}
use Rattle.std.proofs.lemmas.List.Concat.{flat_map-append}
use Rattle.hunk_core.specs.LineTests.{ends_line}
use Rattle.hunk_core.specs.PlainHunk.{Marked}
use Rattle.hunk_core.specs.Writing.{no_newline}
use Rattle.hunk_core.proofs.TextLemmas.{slice-first}
use Rattle.unified_form.specs.Grammar.{mark_byte}
use Rattle.hunk_core.specs.declared.Side.{Side}
use Rattle.hunk_core.specs.declared.HunkLine.{HunkLine}
use Rattle.hunk_core.specs.declared.Hunk.{Hunk}
use Rattle.hunk_core.specs.Sides.{taken_count}
use Rattle.hunk_core.specs.PlainHunk.{marked_of, body_of, hunk_of}
use Rattle.hunk_core.specs.Turned.{turned, taken, taken_line, other_side}
use Rattle.hunk_core.proofs.TurnedLemmas.{turned-body, turned-count, turned-other-count}
use Rattle.unified_form.specs.Grammar.{counts_of}
use Rattle.unified_form.specs.Canonical.{range_line_text, line_text, canonical}
use Rattle.unified_form.proofs.Counts.{counts-old, counts-new}

abbrev pub written : List ℕ → Side → List HunkLine → List ℕ
written text side ls = flat_map line_text (map (taken_line side) (body_of text ls))

pub put-more : (text : List ℕ) (side : Side) (xs : List HunkLine) (i : ℕ) (x : HunkLine) → i < length xs → x ≡ get_or xs i x → written text side (take i xs) ++ line_text (taken_line side (marked_of text x)) ≡ written text side (take (i + 1) xs)
put-more text side xs i x lt is =
    flat_map_more line_text [] (map (taken_line side) (body_of text (take i xs))) (taken_line side (marked_of text x))
    ∙ ap (λ ms. flat_map line_text ms) (sym (map_push (taken_line side) (body_of text (take i xs)) (marked_of text x)))
    ∙ ap (λ ms. flat_map line_text (map (taken_line side) ms)) (sym (map_push (marked_of text) (take i xs) x))
    ∙ ap (λ y. written text side (take i xs ++ y ∷ [])) is
    ∙ ap (λ ls. written text side ls) (sym (take_more xs i x lt))

-- a line with the byte before it
pub with-byte : (text : List ℕ) (n end byte : ℕ) → n < end → end ≤ length text → get_or text n 0 ≡ byte → slice_range text n end ≡ byte ∷ slice_range text (n + 1) end
with-byte text n end byte lt le is = slice-first text n end lt le ∙ ap (λ b. b ∷ slice_range text (n + 1) end) is

pub whole : (text : List ℕ) (side s : Side) (h : Hunk) (a b c1 c2 : ℕ) → c1 ≡ taken_count side h.body.items → s ≡ other_side side → c2 ≡ taken_count s h.body.items
    → range_line_text a c1 b c2 ++ written text side h.body.items ≡ canonical (taken side a b (hunk_of text h))
whole text side s h a b c1 c2 count1 other count2 =
    let body = (turned side (hunk_of text h)).body in
    let first : c1 ≡ (counts_of body).old = count1 ∙ sym (turned-count text side h) ∙ sym (counts-old body) in
    let second : c2 ≡ (counts_of body).new = count2 ∙ ap (λ x. taken_count x h.body.items) other ∙ sym (turned-other-count text side h) ∙ sym (counts-new body) in
    ap (λ x. range_line_text a x b c2 ++ written text side h.body.items) first
    ∙ ap (λ x. range_line_text a (counts_of body).old b x ++ written text side h.body.items) second
    ∙ ap (λ ms. range_line_text a (counts_of body).old b (counts_of body).new ++ flat_map line_text ms) (sym (turned-body side (hunk_of text h)))

pub line-written : (m : Marked) (v : Bool) → ends_line m.line ≡ v → (mark_byte m.mark ∷ m.line) ++ cond v [] (10 ∷ no_newline) ≡ line_text m
line-written m v e = ap (λ b. mark_byte m.mark ∷ (m.line ++ cond b [] (10 ∷ no_newline))) (sym e)

written-both : (text : List ℕ) (side : Side) (xs ys : List HunkLine) → written text side xs ++ written text side ys ≡ written text side (xs ++ ys)
written-both text side xs ys =
    sym (flat_map-append line_text (map (taken_line side) (body_of text xs)) (map (taken_line side) (body_of text ys)))
    ∙ ap (flat_map line_text) (sym (map-append (taken_line side) (body_of text xs) (body_of text ys)))
    ∙ ap (λ ms. flat_map line_text (map (taken_line side) ms)) (sym (map-append (marked_of text) xs ys))

-- a line, what was written before it, and what would have come after it
pub cut-off : (text : List ℕ) (side : Side) (xs : List HunkLine) (i : ℕ) (x : HunkLine) → i < length xs → x ≡ get_or xs i x → (written text side (take i xs) ++ line_text (taken_line side (marked_of text x))) ++ written text side (drop (i + 1) xs) ≡ written text side xs
cut-off text side xs i x lt is =
    ap (λ bs. bs ++ written text side (drop (i + 1) xs)) (put-more text side xs i x lt is)
    ∙ written-both text side (take (i + 1) xs) (drop (i + 1) xs)
    ∙ ap (written text side) (take-append-drop (i + 1) xs)

-- the range line, piece by piece
pub range-pieces : (t0 t1 t2 t3 t4 t5 old new : List ℕ) → t0 ≡ [] → t1 ≡ t0 ++ (64 ∷ 64 ∷ 32 ∷ 45 ∷ []) → t2 ≡ t1 ++ old → t3 ≡ t2 ++ (32 ∷ 43 ∷ []) → t4 ≡ t3 ++ new → t5 ≡ t4 ++ (32 ∷ 64 ∷ 64 ∷ 10 ∷ [])
    → t5 ≡ (64 ∷ 64 ∷ 32 ∷ 45 ∷ []) ++ (old ++ ((32 ∷ 43 ∷ []) ++ (new ++ ((32 ∷ 64 ∷ 64 ∷ []) ++ 10 ∷ []))))
range-pieces t0 t1 t2 t3 t4 t5 old new none before first between second behind = rw (behind, second, between, first, before, none) (simp append_assoc)
