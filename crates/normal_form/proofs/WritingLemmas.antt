-- Writing a hunk line by line.
use Rattle.std.proofs.Common.{◌≡◌, Bool, true, false, cond, ℕ, ◌+◌, ◌<◌, List, [], ◌∷◌, ◌++◌, length, get_or, take, drop, map, refl, sym, ap, ◌∙◌, append_assoc}
use Rattle.std.specs.Prelude.{filter}
use Rattle.std.specs.List.{flat_map}
use Rattle.std.proofs.lemmas.List.{take_more, drop_more, take-append-drop, append-nil}
use Rattle.std.proofs.lemmas.List.Concat.{flat_map-cons}
use Rattle.hunk_core.specs.declared.Side.{Side}
use Rattle.hunk_core.specs.declared.Side.TheVariants.{Forward, Reversed}
use Rattle.hunk_core.specs.declared.HunkLine.{HunkLine}
use Rattle.hunk_core.specs.declared.Hunk.{Hunk}
use Rattle.hunk_core.specs.Sides.{is_on_side, taken_count}
use Rattle.hunk_core.specs.PlainHunk.{bytes_at, marked_of, body_of, hunk_of, lines_on, old_lines, new_lines}
use Rattle.hunk_core.specs.Turned.{is_drop, is_add, taken, turned, other_side}
use Rattle.hunk_core.proofs.SideLemmas.{turned-lines, turned-others, lines-counted}
use Rattle.normal_form.specs.Canonical.{are_added, drops_come_first, action_for, command_text, divider_text, line_text, lines_text, canonical}

-- ---- the order of a body

pub added-more : (xs : List HunkLine) (i : ℕ) (x : HunkLine) → i < length xs → x ≡ get_or xs i x → is_add x.mark ≡ true → are_added (drop i xs) ≡ are_added (drop (i + 1) xs)
unfolding are_added
added-more xs i x lt is add = ap are_added (drop_more xs i x lt) ∙ (let here : is_add (get_or xs i x).mark ≡ true = rw (← is) add in rw here refl)

pub added-not : (xs : List HunkLine) (i : ℕ) (x : HunkLine) → i < length xs → x ≡ get_or xs i x → is_add x.mark ≡ false → are_added (drop i xs) ≡ false
unfolding are_added
added-not xs i x lt is add = ap are_added (drop_more xs i x lt) ∙ (let here : is_add (get_or xs i x).mark ≡ false = rw (← is) add in rw here refl)

pub added-nil : are_added [] ≡ true
unfolding are_added
added-nil = refl

pub drops-more : (xs : List HunkLine) (i : ℕ) (x : HunkLine) → i < length xs → x ≡ get_or xs i x → is_drop x.mark ≡ true → drops_come_first (drop i xs) ≡ drops_come_first (drop (i + 1) xs)
unfolding drops_come_first
drops-more xs i x lt is dropped = ap drops_come_first (drop_more xs i x lt) ∙ (let here : is_drop (get_or xs i x).mark ≡ true = rw (← is) dropped in rw here refl)

pub drops-stop : (xs : List HunkLine) (i : ℕ) (x : HunkLine) → i < length xs → x ≡ get_or xs i x → is_drop x.mark ≡ false → drops_come_first (drop i xs) ≡ are_added (drop i xs)
unfolding drops_come_first
drops-stop xs i x lt is dropped = ap drops_come_first (drop_more xs i x lt) ∙ (let here : is_drop (get_or xs i x).mark ≡ false = rw (← is) dropped in rw here refl) ∙ ap are_added (sym (drop_more xs i x lt))

pub drops-nil : drops_come_first [] ≡ are_added []
unfolding drops_come_first are_added
drops-nil = refl

-- ---- the lines of a side

abbrev pub written : List ℕ → Side → Side → List HunkLine → List ℕ
written text on side ls = flat_map (line_text side) (lines_on on (body_of text ls))

abbrev pub piece_of : List ℕ → Side → Side → HunkLine → List ℕ
piece_of text on side x = cond (is_on_side on x.mark) (line_text side (bytes_at text x.span)) []

written-cons : (text : List ℕ) (on side : Side) (x : HunkLine) (xs : List HunkLine) → written text on side (x ∷ xs) ≡ piece_of text on side x ++ written text on side xs
written-cons text on side x xs = by (is_on_side on x.mark)
  where
    by : (b : Bool) → flat_map (line_text side) (map (λ m. m.line) (cond b (marked_of text x ∷ filter (λ m. is_on_side on m.mark) (body_of text xs)) (filter (λ m. is_on_side on m.mark) (body_of text xs)))) ≡ cond b (line_text side (bytes_at text x.span)) [] ++ written text on side xs
    by true = flat_map-cons (line_text side) (bytes_at text x.span) (lines_on on (body_of text xs))
    by false = refl

written-both : (text : List ℕ) (on side : Side) (xs ys : List HunkLine) → written text on side (xs ++ ys) ≡ written text on side xs ++ written text on side ys
written-both text on side [] ys = refl
written-both text on side (x ∷ xs) ys =
    written-cons text on side x (xs ++ ys) ∙ ap (λ bs. piece_of text on side x ++ bs) (written-both text on side xs ys)
    ∙ sym (append_assoc (piece_of text on side x) (written text on side xs) (written text on side ys)) ∙ ap (λ bs. bs ++ written text on side ys) (sym (written-cons text on side x xs))

written-one : (text : List ℕ) (on side : Side) (x : HunkLine) → written text on side (x ∷ []) ≡ piece_of text on side x
written-one text on side x = written-cons text on side x [] ∙ append-nil (piece_of text on side x)

pub put-more : (text : List ℕ) (on side : Side) (xs : List HunkLine) (i : ℕ) (x : HunkLine) → i < length xs → x ≡ get_or xs i x → written text on side (take i xs) ++ piece_of text on side x ≡ written text on side (take (i + 1) xs)
put-more text on side xs i x lt is =
    ap (λ bs. written text on side (take i xs) ++ bs) (sym (written-one text on side x)) ∙ sym (written-both text on side (take i xs) (x ∷ []))
    ∙ ap (λ y. written text on side (take i xs ++ y ∷ [])) is ∙ ap (written text on side) (sym (take_more xs i x lt))

-- a line, what was written before it, and what would have come after it
pub cut-off : (text : List ℕ) (on side : Side) (xs : List HunkLine) (i : ℕ) (x : HunkLine) → i < length xs → x ≡ get_or xs i x → (written text on side (take i xs) ++ piece_of text on side x) ++ written text on side (drop (i + 1) xs) ≡ written text on side xs
cut-off text on side xs i x lt is =
    ap (λ bs. bs ++ written text on side (drop (i + 1) xs)) (put-more text on side xs i x lt is)
    ∙ sym (written-both text on side (take (i + 1) xs) (drop (i + 1) xs)) ∙ ap (written text on side) (take-append-drop (i + 1) xs)

-- ---- the whole

pub whole : (text : List ℕ) (side other : Side) (h : Hunk) (a b old new : ℕ) → other ≡ other_side side → old ≡ taken_count side h.body.items → new ≡ taken_count other h.body.items
    → command_text a old b new ++ (written text side Forward h.body.items ++ (divider_text (action_for old new) ++ written text other Reversed h.body.items)) ≡ canonical (taken side a b (hunk_of text h))
whole text side other h a b old new is count count2 =
    let one : lines_on side (body_of text h.body.items) ≡ old_lines (turned side (hunk_of text h)).body = sym (turned-lines text side h) in
    let two : lines_on other (body_of text h.body.items) ≡ new_lines (turned side (hunk_of text h)).body = ap (λ s. lines_on s (body_of text h.body.items)) is ∙ sym (turned-others text side h) in
    let olds : old ≡ length (lines_on side (body_of text h.body.items)) = count ∙ sym (lines-counted text side h.body.items) in
    let news : new ≡ length (lines_on other (body_of text h.body.items)) = count2 ∙ sym (lines-counted text other h.body.items) in
    rw (olds, news) (ap (λ ls. lines_text a b ls (lines_on other (body_of text h.body.items))) one ∙ ap (λ ls. lines_text a b (old_lines (turned side (hunk_of text h)).body) ls) two)

-- ---- the command, piece by piece

pub pieces-text : (t0 t1 t2 t3 t4 old new : List ℕ) (l : ℕ) → t0 ≡ [] → t1 ≡ t0 ++ old → t2 ≡ t1 ++ l ∷ [] → t3 ≡ t2 ++ new → t4 ≡ t3 ++ 10 ∷ [] → t4 ≡ old ++ (l ∷ (new ++ 10 ∷ []))
pieces-text t0 t1 t2 t3 t4 old new l none first letter second feed = rw (feed, second, letter, first, none) (simp append_assoc)
