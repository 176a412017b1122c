-- The old lines of a hunk, one after another, and a test of all of them.
use Rattle.std.proofs.Common.{◌≡◌, ◌≢◌, ℕ, zero, suc, ◌+◌, ◌-◌, ◌<◌, ◌≤◌, Bool, true, false, cond, ◌&&◌, eqb, List, [], ◌∷◌, length, get_or, drop, map, refl, sym, ap, subst, ◌∙◌, arith, inl, inr, count_by}
use Rattle.std.specs.List.{list_all, range_with_len}
use Rattle.std.proofs.lemmas.Bool.{cases_eq}
use Rattle.std.proofs.lemmas.List.{at_drop_more, at_drop_all, length-drop, drop_all}
use Rattle.std.proofs.lemmas.List.Sums.{sum_by-cons}
use Rattle.line_store.specs.Store.{line_at}
use Rattle.hunk_core.specs.declared.Mark.{Mark}
use Rattle.hunk_core.specs.declared.Mark.TheVariants.{Keep, Drop, Add}
use Rattle.hunk_core.specs.declared.Side.{Side}
use Rattle.hunk_core.specs.declared.Side.TheVariants.{Forward, Reversed}
use Rattle.hunk_core.specs.declared.HunkLine.{HunkLine}
use Rattle.hunk_core.specs.declared.Hunk.{Hunk}
use Rattle.line_list.specs.declared.Span.{Span}
use Rattle.hunk_core.specs.Sides.{is_on_side, taken_count}
use Rattle.hunk_core.specs.PlainHunk.{PlainHunk, hunk_of, body_of, old_lines, bytes_at}
use Rattle.hunk_core.specs.Turned.{turned, swapped_line}
use Rattle.line_list.proofs.Elements.{front-is}
use Rattle.hunk_place.specs.Loose.{same_line}
use Rattle.hunk_place.specs.Order.{from_to}
use Rattle.hunk_place.specs.Placing.{fits}
use Rattle.hunk_place.specs.Taken.{taken_lines, side_lines}

pub side-is : (text : List ℕ) (side : Side) (h : Hunk) → taken_lines text side h ≡ side_lines text side h.body.items
unfolding taken_lines
side-is text Forward h = refl
side-is text Reversed h = refl

side-cons-mark : (text : List ℕ) (side : Side) (m : Mark) (s : Span) (ls : List HunkLine) → let l : HunkLine = record { mark = m; span = s } in side_lines text side (l ∷ ls) ≡ cond (is_on_side side m) (bytes_at text s ∷ side_lines text side ls) (side_lines text side ls)
side-cons-mark text Forward Keep s ls = refl
side-cons-mark text Forward Drop s ls = refl
side-cons-mark text Forward Add s ls = refl
side-cons-mark text Reversed Keep s ls = refl
side-cons-mark text Reversed Drop s ls = refl
side-cons-mark text Reversed Add s ls = refl

pub side-cons : (text : List ℕ) (side : Side) (l : HunkLine) (ls : List HunkLine) → side_lines text side (l ∷ ls) ≡ cond (is_on_side side l.mark) (bytes_at text l.span ∷ side_lines text side ls) (side_lines text side ls)
side-cons text side l ls = side-cons-mark text side l.mark l.span ls

pub nothing : (text : List ℕ) (side : Side) → side_lines text side [] ≡ []
nothing text Forward = refl
nothing text Reversed = refl

pub side-length : (text : List ℕ) (side : Side) (ls : List HunkLine) → length (side_lines text side ls) ≡ taken_count side ls
side-length text Forward [] = refl
side-length text Reversed [] = refl
side-length text side (l ∷ ls) = ap length (side-cons text side l ls) ∙ by (is_on_side side l.mark) (side-length text side ls) ∙ sym (sum_by-cons (λ x. cond (is_on_side side x.mark) 1 0) l ls)
  where
    by : (v : Bool) → length (side_lines text side ls) ≡ taken_count side ls → length (cond v (bytes_at text l.span ∷ side_lines text side ls) (side_lines text side ls)) ≡ cond v 1 0 + taken_count side ls
    by true again = omega arith
    by false again = omega arith

-- a line that is not on the side
pub side-skip : (text : List ℕ) (side : Side) (items : List HunkLine) (at i : ℕ) (l : HunkLine) → at < length items → l ≡ get_or items at l → is_on_side side l.mark ≡ false → side_lines text side (drop at items) ≡ drop i (side_lines text side items) → side_lines text side (drop (at + 1) items) ≡ drop i (side_lines text side items)
side-skip text side items at i l lt is off h =
    let step : side_lines text side (drop at items) ≡ side_lines text side (get_or items at l ∷ drop (at + 1) items) = at_drop_more (side_lines text side) items at l lt in
    let same : side_lines text side (l ∷ drop (at + 1) items) ≡ side_lines text side (drop (at + 1) items) = side-cons text side l (drop (at + 1) items) ∙ rw off refl in
    sym same ∙ ap (λ x. side_lines text side (x ∷ drop (at + 1) items)) is ∙ sym step ∙ h

-- the next old line
pub side-take : (text : List ℕ) (side : Side) (items : List HunkLine) (at i : ℕ) (l : HunkLine) → at < length items → l ≡ get_or items at l → is_on_side side l.mark ≡ true → side_lines text side (drop at items) ≡ drop i (side_lines text side items) → drop i (side_lines text side items) ≡ bytes_at text l.span ∷ side_lines text side (drop (at + 1) items)
side-take text side items at i l lt is on h =
    let step : side_lines text side (drop at items) ≡ side_lines text side (get_or items at l ∷ drop (at + 1) items) = at_drop_more (side_lines text side) items at l lt in
    let same : side_lines text side (l ∷ drop (at + 1) items) ≡ bytes_at text l.span ∷ side_lines text side (drop (at + 1) items) = side-cons text side l (drop (at + 1) items) ∙ rw on refl in
    sym h ∙ step ∙ ap (λ x. side_lines text side (x ∷ drop (at + 1) items)) (sym is) ∙ same

all-true : (f : ℕ → Bool) (a n : ℕ) → ((k : ℕ) → a ≤ k → k < a + n → f k ≡ true) → list_all f (range_with_len a n) ≡ true
all-true f a zero h = refl
all-true f a (suc n) h = rw (h a (omega arith) (omega arith)) (all-true f (a + 1) n (λ k low high. h k (omega arith) (omega arith)))

all-false : (f : ℕ → Bool) (a n k : ℕ) → a ≤ k → k < a + n → f k ≡ false → list_all f (range_with_len a n) ≡ false
all-false f a zero k low high e = absurd (omega arith)
all-false f a (suc n) k low high e = elim (cases_eq a k) [
  | inl s ↦ (let here : f a ≡ false = ap f s ∙ e in rw here refl)
  | inr ne ↦ and_false (f a) (all-false f (a + 1) n k (omega arith) (omega arith) e)
]
  where
    and_false : (b : Bool) {c : Bool} → c ≡ false → (b && c) ≡ false
    and_false true e = e
    and_false false e = refl

pub fits-true : (lines old : List (List ℕ)) (loose : Bool) (front back w : ℕ) → ((k : ℕ) → front < k → k + back ≤ length old → same_line loose (line_at old k) (line_at lines (w + k - 1)) ≡ true) → fits lines old loose front back w ≡ true
unfolding fits
fits-true lines old loose front back w h = all-true (λ i. same_line loose (line_at old i) (line_at lines (w + i - 1))) (front + 1) (suc (length old - back) - (front + 1)) (λ k low high. h k (omega arith) (omega arith))

pub fits-false : (lines old : List (List ℕ)) (loose : Bool) (front back w k : ℕ) → front < k → k + back ≤ length old → same_line loose (line_at old k) (line_at lines (w + k - 1)) ≡ false → fits lines old loose front back w ≡ false
unfolding fits
fits-false lines old loose front back w k low high e = all-false (λ i. same_line loose (line_at old i) (line_at lines (w + i - 1))) (front + 1) (suc (length old - back) - (front + 1)) k (omega arith) (omega arith) e

-- what holds of the lines that were compared, one line on
pub one-more : (P : ℕ → Type 0) (front i : ℕ) → ((k : ℕ) → front < k → k ≤ i → P k) → P (i + 1) → (k : ℕ) → front < k → k ≤ i + 1 → P k
one-more P front i h here k low high = elim (cases_eq k (i + 1)) [
  | inl e ↦ subst P (sym e) here
  | inr ne ↦ h k low (omega arith)
]

-- the lines that are compared were, and were equal
pub fits-so : (text : List ℕ) (side : Side) (h : Hunk) (lines : List (List ℕ)) (loose : Bool) (front back w i : ℕ)
    → ((k : ℕ) → front < k → k ≤ i → same_line loose (line_at (side_lines text side h.body.items) k) (line_at lines (w + k - 1)) ≡ true)
    → length (side_lines text side h.body.items) - back ≤ i
    → true ≡ fits lines (taken_lines text side h) loose front back w
fits-so text side h lines loose front back w i same all =
    sym (ap (λ old. fits lines old loose front back w) (side-is text side h)
    ∙ fits-true lines (side_lines text side h.body.items) loose front back w (λ k low room. same k low (omega arith)))

-- one of them differs
pub fits-not : (text : List ℕ) (side : Side) (h : Hunk) (lines : List (List ℕ)) (loose : Bool) (front back w k : ℕ)
    → front < k → k + back ≤ length (side_lines text side h.body.items)
    → same_line loose (line_at (side_lines text side h.body.items) k) (line_at lines (w + k - 1)) ≡ false
    → false ≡ fits lines (taken_lines text side h) loose front back w
fits-not text side h lines loose front back w k low high e =
    sym (ap (λ old. fits lines old loose front back w) (side-is text side h)
    ∙ fits-false lines (side_lines text side h.body.items) loose front back w k low high e)

-- the test of the next old line
pub same-at : (lines old : List (List ℕ)) (loose : Bool) (w i : ℕ) (line : List ℕ) (rest : List (List ℕ)) (b : Bool) → drop i old ≡ line ∷ rest → b ≡ same_line loose line (line_at lines (w + i)) → same_line loose (line_at old (i + 1)) (line_at lines (w + (i + 1) - 1)) ≡ b
same-at lines old loose w i line rest b e h =
    let here : line_at old (i + 1) ≡ line = (let n : i + 1 - 1 ≡ i = omega arith in ap (λ k. get_or old k []) n ∙ front-is old rest line [] i e) in
    let there : line_at lines (w + (i + 1) - 1) ≡ line_at lines (w + i) = (let n : w + (i + 1) - 1 ≡ w + i = omega arith in ap (λ k. line_at lines k) n) in
    ap (λ x. same_line loose x (line_at lines (w + (i + 1) - 1))) here ∙ ap (λ y. same_line loose line y) there ∙ sym h

-- all old lines have been seen
pub none-left : {X : Type 0} (xs : List X) (i : ℕ) → [] ≡ drop i xs → length xs ≤ i
none-left xs i e =
    let a : length (drop i xs) ≡ length xs - i = length-drop i xs in
    let b : 0 ≡ length (drop i xs) = ap length e in
    omega arith

pub taken-length : (text : List ℕ) (side : Side) (h : Hunk) → length (taken_lines text side h) ≡ taken_count side h.body.items
taken-length text side h = ap length (side-is text side h) ∙ side-length text side h.body.items

-- behind as many lines as there are
pub all-behind : {X : Type 0} (xs : List X) (i front : ℕ) → [] ≡ drop i xs → i ≤ front → [] ≡ drop front xs
all-behind xs i front e le = sym (drop_all front xs (let n : length xs ≤ i = none-left xs i e in omega arith))
