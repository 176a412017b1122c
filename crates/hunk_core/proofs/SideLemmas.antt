-- The lines of a body on a side, one after the other.
use Rattle.std.proofs.Common.{◌≡◌, ℕ, ◌+◌, ◌<◌, Bool, true, false, cond, ◌||◌, not, List, [], ◌∷◌, length, get_or, drop, map, refl, sym, ap, ◌∙◌, arith}
use Rattle.std.proofs.lemmas.List.{drop_more}
use Rattle.std.proofs.lemmas.List.Recursion.{is_count_by}
use Rattle.std.specs.Prelude.{filter}
use Rattle.hunk_core.specs.declared.Mark.{Mark}
use Rattle.hunk_core.specs.declared.Mark.TheVariants.{Keep, Drop, Add}
use Rattle.hunk_core.specs.declared.Side.{Side}
use Rattle.hunk_core.specs.declared.Side.TheVariants.{Forward, Reversed}
use Rattle.hunk_core.specs.declared.HunkLine.{HunkLine}
use Rattle.hunk_core.specs.declared.Hunk.{Hunk}
use Rattle.hunk_core.specs.Sides.{is_on_side, taken_count}
use Rattle.hunk_core.specs.PlainHunk.{Marked, marked_of, body_of, hunk_of, lines_on, old_lines, new_lines, PlainHunk}
use Rattle.hunk_core.specs.Turned.{swapped_mark, swapped_line, other_side, turned}
use Rattle.hunk_core.specs.LineTests.{ends_line}
use Rattle.hunk_core.specs.Rules.{lacks_inner_end}

-- ---- a side of a hunk that is taken reversed

side_again : (side : Side) (m : Marked) → is_on_side side (swapped_line m).mark ≡ is_on_side (other_side side) m.mark
side_again side m = by side m.mark
  where
    by : (s : Side) (mark : Mark) → is_on_side s (swapped_mark mark) ≡ is_on_side (other_side s) mark
    by Forward Keep = refl
    by Forward Drop = refl
    by Forward Add = refl
    by Reversed Keep = refl
    by Reversed Drop = refl
    by Reversed Add = refl

out : (b : Bool) (x : Marked) (xs : List Marked) → map (λ y. y.line) (cond b (x ∷ xs) xs) ≡ cond b (x.line ∷ map (λ y. y.line) xs) (map (λ y. y.line) xs)
out true x xs = refl
out false x xs = refl

pub swapped-lines : (side : Side) (body : List Marked) → lines_on side (map swapped_line body) ≡ lines_on (other_side side) body
swapped-lines side [] = refl
swapped-lines side (m ∷ body) =
    let more = swapped-lines side body in
    let first : cond (is_on_side side (swapped_line m).mark) (m.line ∷ lines_on side (map swapped_line body)) (lines_on side (map swapped_line body)) ≡ cond (is_on_side (other_side side) m.mark) (m.line ∷ lines_on (other_side side) body) (lines_on (other_side side) body) = rw (more, side_again side m) refl in
    out (is_on_side side (swapped_line m).mark) (swapped_line m) (filter (λ x. is_on_side side x.mark) (map swapped_line body)) ∙ first ∙ sym (out (is_on_side (other_side side) m.mark) m (filter (λ x. is_on_side (other_side side) x.mark) body))

pub turned-lines : (text : List ℕ) (side : Side) (h : Hunk) → old_lines (turned side (hunk_of text h)).body ≡ lines_on side (body_of text h.body.items)
turned-lines text Forward h = refl
turned-lines text Reversed h = swapped-lines Forward (body_of text h.body.items)

pub turned-others : (text : List ℕ) (side : Side) (h : Hunk) → new_lines (turned side (hunk_of text h)).body ≡ lines_on (other_side side) (body_of text h.body.items)
turned-others text Forward h = refl
turned-others text Reversed h = swapped-lines Reversed (body_of text h.body.items)

one_on : (b : Bool) (x : Marked) (xs : List Marked) → length (map (λ y. y.line) (cond b (x ∷ xs) xs)) ≡ cond b (1 + length (map (λ y. y.line) xs)) (length (map (λ y. y.line) xs))
one_on true x xs = omega arith
one_on false x xs = refl

pub lines-counted : (text : List ℕ) (side : Side) (ls : List HunkLine) → length (lines_on side (body_of text ls)) ≡ taken_count side ls
lines-counted text side ls =
    is_count_by (λ (xs : List HunkLine). length (lines_on side (body_of text xs))) (λ l. is_on_side side l.mark) refl
    (λ x xs. one_on (is_on_side side x.mark) (marked_of text x) (filter (λ m. is_on_side side m.mark) (body_of text xs))) ls

-- ---- from the line at an index on

abbrev pub rest_on : List ℕ → Side → List HunkLine → ℕ → List (List ℕ)
rest_on text side ls i = lines_on side (body_of text (drop i ls))

pub from-here : (ls : List HunkLine) (i : ℕ) (x : HunkLine) → i < length ls → x ≡ get_or ls i x → drop i ls ≡ x ∷ drop (i + 1) ls
from-here ls i x lt is = drop_more ls i x lt ∙ ap (λ y. y ∷ drop (i + 1) ls) (sym is)

-- ---- inner ends

-- a line lacks its end, behind one that has its own or not
abbrev pub lacks_behind : Bool → List (List ℕ) → Bool
lacks_behind ended [] = false
lacks_behind ended (line ∷ more) = not ended || lacks_behind (ends_line line) more

pub lacks-behind : (ls : List (List ℕ)) → lacks_inner_end ls ≡ lacks_behind true ls
lacks-behind [] = refl
lacks-behind (line ∷ []) = refl
lacks-behind (line ∷ next ∷ more) = ap (λ b. not (ends_line line) || b) (lacks-behind (next ∷ more))

abbrev pub hunk_is : ℕ → ℕ → List Marked → PlainHunk
hunk_is a m body = record { old_start = a; new_start = m; body = body }
