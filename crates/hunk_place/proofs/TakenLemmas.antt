-- The numbers of a hunk as it is taken from a side.
use Rattle.std.proofs.Common.{◌≡◌, ℕ, ◌+◌, Bool, true, false, cond, eqb, List, length, reverse, refl, sym, ap, ◌∙◌, arith}
use Rattle.std.specs.Prelude.{ℤ, pos, negsuc, ◌+ℤ◌, ◌-ℤ◌, ◌≤ℤ◌, ◌==◌, if◌then◌else◌}
use Rattle.std.proofs.Common.{to_z, of_z, w64, ◌≤◌, ◌^◌}
use Rattle.std.proofs.lemmas.Int.{ints}
use Rattle.std.specs.List.{prefix_len}
use Rattle.hunk_core.specs.declared.Side.{Side}
use Rattle.hunk_core.specs.declared.Side.TheVariants.{Forward, Reversed}
use Rattle.hunk_core.specs.declared.Hunk.{Hunk}
use Rattle.hunk_core.specs.Sides.{start_of, taken_count}
use Rattle.hunk_core.specs.PlainHunk.{Marked, PlainHunk, body_of, marked_of, old_lines}
use Rattle.hunk_core.specs.Turned.{swapped_line, is_keep, leading, trailing, base}
use Rattle.hunk_core.proofs.TurnedLemmas.{reverse-map, is_kept_line, kept, kept-swapped}
use Rattle.hunk_place.specs.declared.PlaceState.{PlaceState}
use Rattle.hunk_place.specs.declared.first.Numbers.{Numbers}
use Rattle.hunk_place.specs.Taken.{taken, taken_lines}
use Rattle.hunk_place.specs.Placing.{Search, search_of}
use Rattle.hunk_place.specs.Numbered.{search_with}
use Rattle.hunk_place.proofs.FitLemmas.{taken-length}

abbrev is_kept : Marked → Bool
is_kept m = is_keep m.mark

pub taken-leading : (text : List ℕ) (side : Side) (h : Hunk) → leading (taken text side h).body ≡ prefix_len is_kept_line h.body.items
taken-leading text Forward h = kept text h.body.items
taken-leading text Reversed h = kept-swapped (body_of text h.body.items) ∙ kept text h.body.items

pub taken-trailing : (text : List ℕ) (side : Side) (h : Hunk) → trailing (taken text side h).body ≡ prefix_len is_kept_line (reverse h.body.items)
taken-trailing text Forward h = ap (prefix_len is_kept) (reverse-map (marked_of text) h.body.items) ∙ kept text (reverse h.body.items)
taken-trailing text Reversed h =
    ap (prefix_len is_kept) (reverse-map swapped_line (body_of text h.body.items)) ∙ kept-swapped (reverse (body_of text h.body.items))
    ∙ ap (prefix_len is_kept) (reverse-map (marked_of text) h.body.items) ∙ kept text (reverse h.body.items)

pub taken-start : (text : List ℕ) (side : Side) (h : Hunk) → (taken text side h).old_start ≡ start_of side h
taken-start text Forward h = refl
taken-start text Reversed h = refl

pub lines-are : (text : List ℕ) (side : Side) (h : Hunk) → taken_lines text side h ≡ old_lines (taken text side h).body
unfolding taken_lines
lines-are text side h = refl

pub taken-base : (text : List ℕ) (side : Side) (h : Hunk) → base (taken text side h) ≡ (if taken_count side h.body.items == 0 then start_of side h + 1 else start_of side h)
taken-base text side h =
    let n : length (old_lines (taken text side h).body) ≡ taken_count side h.body.items = ap length (sym (lines-are text side h)) ∙ taken-length text side h in
    ap (λ k. if k == 0 then (taken text side h).old_start + 1 else (taken text side h).old_start) n
    ∙ ap (λ s. if taken_count side h.body.items == 0 then s + 1 else s) (taken-start text side h)

abbrev searching : List (List ℕ) → Bool → List (List ℕ) → ℕ → ℕ → ℕ → ℕ → ℤ → Search
searching lines loose old start pre post consumed guess = record { lines = lines; old = old; start = start; pre = pre; post = post; consumed = consumed; guess = guess; loose = loose }

pub same-search : (text : List ℕ) (side : Side) (h : Hunk) (lines : List (List ℕ)) (loose : Bool) (state : PlaceState) (n : Numbers)
    → n.start ≡ start_of side h → n.pre ≡ prefix_len is_kept_line h.body.items → n.post ≡ prefix_len is_kept_line (reverse h.body.items) → n.consumed ≡ state.consumed → n.guess ≡ pos (base (taken text side h)) +ℤ state.offset
    → search_with lines (taken_lines text side h) loose n ≡ search_of lines loose (taken text side h) state
same-search text side h lines loose state n start pre post consumed guess =
    ap (λ old. searching lines loose old n.start n.pre n.post n.consumed n.guess) (lines-are text side h)
    ∙ ap (λ v. searching lines loose (old_lines (taken text side h).body) v n.pre n.post n.consumed n.guess) (start ∙ sym (taken-start text side h))
    ∙ ap (λ v. searching lines loose (old_lines (taken text side h).body) (taken text side h).old_start v n.post n.consumed n.guess) (pre ∙ sym (taken-leading text side h))
    ∙ ap (λ v. searching lines loose (old_lines (taken text side h).body) (taken text side h).old_start (leading (taken text side h).body) v n.consumed n.guess) (post ∙ sym (taken-trailing text side h))
    ∙ ap (λ v. searching lines loose (old_lines (taken text side h).body) (taken text side h).old_start (leading (taken text side h).body) (trailing (taken text side h).body) v n.guess) consumed
    ∙ ap (λ v. searching lines loose (old_lines (taken text side h).body) (taken text side h).old_start (leading (taken text side h).body) (trailing (taken text side h).body) state.consumed v) guess

pub guess-is : (b : ℕ) (o : ℤ) → b ≤ 2 ^ 32 → negsuc (2 ^ 41) ≤ℤ o → o ≤ℤ pos (2 ^ 41) → to_z w64 (of_z w64 (to_z w64 b +ℤ to_z w64 (of_z w64 o))) ≡ pos b +ℤ o
guess-is b o small low high = omega (arith, ints)

pub offset-is : (line b : ℕ) → line ≤ 2 ^ 42 → b ≤ 2 ^ 32 → to_z w64 (of_z w64 (to_z w64 line -ℤ to_z w64 b)) ≡ pos line -ℤ pos b
offset-is line b high small = omega (arith, ints)
