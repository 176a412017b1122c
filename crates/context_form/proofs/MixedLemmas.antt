-- Stretches that have dropped lines and added ones, and the parts that are written.
use Rattle.std.proofs.Common.{◌≡◌, Bool, true, false, cond, ◌&&◌, ℕ, ◌+◌, ◌<◌, List, [], ◌∷◌, ◌++◌, length, get_or, drop, map, refl, sym, ap, ◌∙◌}
use Rattle.std.proofs.lemmas.List.{drop_more}
use Rattle.hunk_core.specs.declared.Mark.{Mark}
use Rattle.hunk_core.specs.declared.Mark.TheVariants.{Keep, Drop, Add}
use Rattle.hunk_core.specs.declared.Side.{Side}
use Rattle.hunk_core.specs.declared.Side.TheVariants.{Forward, Reversed}
use Rattle.hunk_core.specs.declared.HunkLine.{HunkLine}
use Rattle.hunk_core.specs.declared.Hunk.{Hunk}
use Rattle.hunk_core.specs.Sides.{is_on_side, taken_count}
use Rattle.hunk_core.specs.PlainHunk.{Marked, marked_of, body_of, hunk_of, lines_on, old_lines, new_lines}
use Rattle.hunk_core.specs.Turned.{is_keep, taken, taken_mark, taken_line, turned, other_side}
use Rattle.hunk_core.proofs.SideLemmas.{turned-lines, turned-others, lines-counted}
use Rattle.hunk_core.proofs.TurnedLemmas.{turned-body}
use Rattle.outside.specs.SinkView.{SinkView}
use Rattle.outside.proofs.SinkSteps.{HasPut}
use Rattle.context_form.specs.Canonical.{stars_text, range_line_text, line_text, stretch_has, mixed, mixed_behind, part_text, canonical}

-- ---- a stretch

pub has-step : (text : List ℕ) (side : Side) (xs : List HunkLine) (i : ℕ) (x : HunkLine) → i < length xs → x ≡ get_or xs i x → is_keep x.mark ≡ false → is_on_side side x.mark ≡ false → stretch_has side (body_of text (drop i xs)) ≡ stretch_has side (body_of text (drop (i + 1) xs))
unfolding stretch_has
has-step text side xs i x lt is keep on =
    let k : is_keep (get_or xs i x).mark ≡ false = rw (← is) keep in
    let o : is_on_side side (get_or xs i x).mark ≡ false = rw (← is) on in
    ap (λ ys. stretch_has side (body_of text ys)) (drop_more xs i x lt) ∙ rw (k, o) refl

pub has-stop : (text : List ℕ) (side : Side) (xs : List HunkLine) (i : ℕ) (x : HunkLine) → i < length xs → x ≡ get_or xs i x → is_keep x.mark ≡ true → stretch_has side (body_of text (drop i xs)) ≡ false
unfolding stretch_has
has-stop text side xs i x lt is keep =
    let k : is_keep (get_or xs i x).mark ≡ true = rw (← is) keep in
    ap (λ ys. stretch_has side (body_of text ys)) (drop_more xs i x lt) ∙ rw k refl

pub has-found : (text : List ℕ) (side : Side) (xs : List HunkLine) (i : ℕ) (x : HunkLine) → i < length xs → x ≡ get_or xs i x → is_keep x.mark ≡ false → is_on_side side x.mark ≡ true → stretch_has side (body_of text (drop i xs)) ≡ true
unfolding stretch_has
has-found text side xs i x lt is keep on =
    let k : is_keep (get_or xs i x).mark ≡ false = rw (← is) keep in
    let o : is_on_side side (get_or xs i x).mark ≡ true = rw (← is) on in
    ap (λ ys. stretch_has side (body_of text ys)) (drop_more xs i x lt) ∙ rw (k, o) refl

pub has-nil : (side : Side) → stretch_has side [] ≡ false
unfolding stretch_has
has-nil side = refl

-- ---- a body taken from a side
has-forward : (s : Side) (body : List Marked) → stretch_has s (map (taken_line Forward) body) ≡ stretch_has s body
unfolding stretch_has
has-forward s [] = refl
has-forward s (m ∷ body) = ap (λ b. cond (is_keep m.mark) false (cond (is_on_side s m.mark) true b)) (has-forward s body)

swapped-on : (s : Side) (mark : Mark) → is_on_side s (taken_mark Reversed mark) ≡ is_on_side (other_side s) mark
swapped-on Forward Keep = refl
swapped-on Forward Drop = refl
swapped-on Forward Add = refl
swapped-on Reversed Keep = refl
swapped-on Reversed Drop = refl
swapped-on Reversed Add = refl

pub taken-keep : (side : Side) (mark : Mark) → is_keep (taken_mark side mark) ≡ is_keep mark
taken-keep Forward mark = refl
taken-keep Reversed Keep = refl
taken-keep Reversed Drop = refl
taken-keep Reversed Add = refl

has-reversed : (s : Side) (body : List Marked) → stretch_has s (map (taken_line Reversed) body) ≡ stretch_has (other_side s) body
unfolding stretch_has
has-reversed s [] = refl
has-reversed s (m ∷ body) = let more = has-reversed s body in rw (taken-keep Reversed m.mark, swapped-on s m.mark, more) refl

turned-and : (a b : Bool) → (a && b) ≡ (b && a)
turned-and true true = refl
turned-and true false = refl
turned-and false true = refl
turned-and false false = refl

pub mixed-taken : (side : Side) (body : List Marked) → mixed (map (taken_line side) body) ≡ mixed body
mixed-taken Forward body = rw (has-forward Forward body, has-forward Reversed body) refl
mixed-taken Reversed body = rw (has-reversed Forward body, has-reversed Reversed body) (turned-and (stretch_has Reversed body) (stretch_has Forward body))

behind-taken : (side : Side) (changed : Bool) (mark : Mark) (body : List Marked) → mixed_behind changed (taken_mark side mark) (map (taken_line side) body) ≡ mixed_behind changed mark body
behind-taken side changed mark body = rw (taken-keep side mark, mixed-taken side body) refl

abbrev pub taken_body : List ℕ → Side → List HunkLine → List Marked
taken_body text side ls = map (taken_line side) (body_of text ls)

abbrev pub piece_of : List ℕ → Side → Side → Bool → HunkLine → List ℕ
piece_of text side part changed x = cond (is_on_side part (taken_mark side x.mark)) (line_text changed (taken_line side (marked_of text x))) []

part-cons : (part : Side) (changed : Bool) (m : Marked) (body : List Marked) → part_text part changed (m ∷ body) ≡ cond (is_on_side part m.mark) (line_text changed m) [] ++ part_text part (mixed_behind changed m.mark body) body
unfolding part_text
part-cons part changed m body = refl

pub part-nil : (part : Side) (changed : Bool) → part_text part changed [] ≡ []
unfolding part_text
part-nil part changed = refl

-- the line at an index, and what is written behind it
pub part-step : (text : List ℕ) (side part : Side) (changed : Bool) (xs : List HunkLine) (i : ℕ) (x : HunkLine) → i < length xs → x ≡ get_or xs i x
    → part_text part changed (taken_body text side (drop i xs)) ≡ piece_of text side part changed x ++ part_text part (mixed_behind changed x.mark (body_of text (drop (i + 1) xs))) (taken_body text side (drop (i + 1) xs))
part-step text side part changed xs i x lt is =
    let here : drop i xs ≡ x ∷ drop (i + 1) xs = drop_more xs i x lt ∙ ap (λ y. y ∷ drop (i + 1) xs) (sym is) in
    ap (λ ys. part_text part changed (taken_body text side ys)) here
    ∙ part-cons part changed (taken_line side (marked_of text x)) (taken_body text side (drop (i + 1) xs))
    ∙ ap (λ b. piece_of text side part changed x ++ part_text part b (taken_body text side (drop (i + 1) xs))) (behind-taken side changed x.mark (body_of text (drop (i + 1) xs)))

-- what was written, and what is left to write
pub record SoFar {O : Type 0} (view : O → SinkView) (same : O → O → Type 0) (old new : O) (left total : List ℕ) : Type 0 where
  pub done : List ℕ
  pub put : HasPut view same old new done
  pub whole : done ++ left ≡ total

-- ---- the whole

pub whole-text : (text : List ℕ) (side other : Side) (h : Hunk) (a b old new : ℕ) → other ≡ other_side side → old ≡ taken_count side h.body.items → new ≡ taken_count other h.body.items
    → (stars_text ++ range_line_text Forward a old) ++ (part_text Forward (mixed (taken_body text side h.body.items)) (taken_body text side h.body.items) ++ (range_line_text Reversed b new ++ part_text Reversed (mixed (taken_body text side h.body.items)) (taken_body text side h.body.items))) ≡ canonical (taken side a b (hunk_of text h))
whole-text text side other h a b old new is count count2 =
    let olds : old ≡ length (old_lines (turned side (hunk_of text h)).body) = count ∙ sym (lines-counted text side h.body.items) ∙ sym (ap length (turned-lines text side h)) in
    let news : new ≡ length (new_lines (turned side (hunk_of text h)).body) = count2 ∙ sym (lines-counted text other h.body.items) ∙ ap (λ s. length (lines_on s (body_of text h.body.items))) is ∙ sym (ap length (turned-others text side h)) in
    rw (olds, news, turned-body side (hunk_of text h)) refl
