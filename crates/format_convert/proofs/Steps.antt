-- A walk over the edits of kept hunks.
use Rattle.std.proofs.Common.{◌≡◌, ℕ, zero, suc, ◌+◌, ◌<◌, ◌≤◌, ◌^◌, Bool, true, false, cond, List, [], ◌∷◌, ◌++◌, length, get_or, drop, map, refl, sym, ap, subst, ◌∙◌, append_assoc, arith}
use Rattle.std.specs.List.{All, flat_map, zip}
use Rattle.std.specs.Prelude.{sum_by}
use Rattle.std.proofs.lemmas.List.{append-nil, at_drop_more, drop_all, length-append, length-drop, length-map}
use Rattle.std.proofs.lemmas.Grind.{flat_map-append}
use Rattle.std.proofs.lemmas.List.Sums.{sum_by-drop_more}
use Rattle.std.proofs.lemmas.List.Concat.{flat_map-cons}
use Rattle.hunk_core.specs.declared.Mark.{Mark}
use Rattle.hunk_core.specs.declared.Mark.TheVariants.{Keep, Drop, Add}
use Rattle.hunk_core.specs.declared.Side.TheVariants.{Forward}
use Rattle.hunk_core.specs.declared.Hunk.{Hunk}
use Rattle.hunk_core.specs.declared.HunkLine.{HunkLine}
use Rattle.hunk_core.specs.PlainHunk.{Marked, PlainHunk, body_of, bytes_at, hunk_of, hunks_of, marked_of}
use Rattle.hunk_core.specs.Sides.{is_on_side}
use Rattle.hunk_core.specs.Turned.{IsLawful, LiesIn, base}
use Rattle.format_convert.specs.Taken.{hunk_if, kept_hunks}
use Rattle.format_convert.specs.Blocks.{Edit, add_at, body_edits, drop_at, hunk_edits, marked_edits}
use Rattle.format_convert.specs.Walk.{IsKept, edits_if, edits_left, edits_of, first_if, kept_flags, left_at, left_from, left_hunks, pair_left, pairs}
use Rattle.format_convert.specs.declared.kept.Kept.{Kept}
use Rattle.format_convert.specs.declared.place.EditCursor.{EditCursor}
use Rattle.format_convert.proofs.Rows.{pair-at, none-behind}

-- ---- a body

pub edits-none : (at : ℕ) → body_edits at [] ≡ []
unfolding body_edits
edits-none at = refl

pub edits-mark : (at : ℕ) (m : Marked) (ms : List Marked) → body_edits at (m ∷ ms) ≡ marked_edits m.mark at m.line (λ next. body_edits next ms)
unfolding body_edits
edits-mark at m ms = refl

marked-cons : (k : Mark) (at : ℕ) (line : List ℕ) (ms : List Marked) (later : List Edit) → marked_edits k at line (λ next. body_edits next ms) ++ later ≡ marked_edits k at line (λ _. body_edits (at + cond (is_on_side Forward k) 1 0) ms ++ later)
marked-cons Keep at line ms later = refl
marked-cons Drop at line ms later = refl
marked-cons Add at line ms later = let z : at ≡ at + 0 = omega arith in ap (λ n. add_at at line ∷ body_edits n ms ++ later) z

-- a line of a body, and what is left behind it
pub edits-next : (text : List ℕ) (items : List HunkLine) (i q : ℕ) (l : HunkLine) (later : List Edit) → i < length items → l ≡ get_or items i l
    → body_edits q (body_of text (drop i items)) ++ later ≡ marked_edits l.mark q (bytes_at text l.span) (λ _. body_edits (q + cond (is_on_side Forward l.mark) 1 0) (body_of text (drop (i + 1) items)) ++ later)
edits-next text items i q l later lt is =
    at_drop_more (λ xs. body_edits q (body_of text xs) ++ later) items i l lt
    ∙ ap (λ x. body_edits q (body_of text (x ∷ drop (i + 1) items)) ++ later) (sym is)
    ∙ ap (λ es. es ++ later) (edits-mark q (record { mark = l.mark; line = bytes_at text l.span }) (body_of text (drop (i + 1) items)))
    ∙ marked-cons l.mark q (bytes_at text l.span) (body_of text (drop (i + 1) items)) later

-- a body has no more edits than lines
marked-few : (k : Mark) (q n : ℕ) (line : List ℕ) (ms : List Marked) → ((p : ℕ) → length (body_edits p ms) ≤ n) → length (marked_edits k q line (λ next. body_edits next ms)) ≤ suc n
marked-few Keep q n line ms few = omega (arith, few (q + 1))
marked-few Drop q n line ms few = omega (arith, few (q + 1))
marked-few Add q n line ms few = omega (arith, few q)

pub body-few : (q : ℕ) (ms : List Marked) → length (body_edits q ms) ≤ length ms
body-few q [] = omega (arith, ap length (edits-none q))
body-few q (m ∷ ms) = omega (arith, ap length (edits-mark q m ms), marked-few m.mark q (length ms) m.line ms (λ p. body-few p ms))

-- ---- hunks

pub if-kept : (text : List ℕ) (b : Bool) (h : Hunk) → b ≡ true → edits_if text (b, h) ≡ body_edits (base (hunk_of text h)) (body_of text h.body.items)
if-kept text b h e = rw e refl

pub if-not : (text : List ℕ) (b : Bool) (h : Hunk) → b ≡ false → edits_if text (b, h) ≡ []
if-not text b h e = rw e refl

module _ (k : Kept) (is : IsKept k) (i : ℕ) where
  -- behind all hunks nothing is left
  pub none-ahead : (line next : ℕ) → length k.hunks.now ≤ i → left_at k.set.now.text (pairs k) i line next ≡ []
  none-ahead line next le = ap (left_from k.set.now.text line next) (none-behind k is i le)

  pub none-whole : length k.hunks.now ≤ i → edits_of k.set.now.text (drop i (pairs k)) ≡ []
  none-whole le = ap (edits_of k.set.now.text) (none-behind k is i le)

  -- the edits of the hunks behind this one
  abbrev pub later : List Edit
  later = edits_of k.set.now.text (drop (i + 1) (pairs k))

  module _ (h : Hunk) (lt : i < length k.hunks.now) (at : h ≡ get_or k.hunks.now i h) where
    -- a hunk, and those behind it
    pub hunk-ahead : (line next : ℕ) → left_at k.set.now.text (pairs k) i line next ≡ body_edits next (body_of k.set.now.text (drop line h.body.items)) ++ later
    hunk-ahead line next = ap (left_from k.set.now.text line next) (pair-at k is i h lt at)

    pub hunk-whole : edits_of k.set.now.text (drop i (pairs k)) ≡ edits_if k.set.now.text (get_or (kept_flags k) i false, h) ++ later
    hunk-whole = ap (edits_of k.set.now.text) (pair-at k is i h lt at) ∙ flat_map-cons (edits_if k.set.now.text) (get_or (kept_flags k) i false, h) (drop (i + 1) (pairs k))

    -- a hunk that is kept
    pub starts-at : (next : ℕ) → next ≡ base (hunk_of k.set.now.text h) → get_or (kept_flags k) i false ≡ true → left_at k.set.now.text (pairs k) i 0 next ≡ edits_of k.set.now.text (drop i (pairs k))
    starts-at next e kept =
        hunk-ahead 0 next
        ∙ ap (λ n. body_edits n (body_of k.set.now.text h.body.items) ++ later) e
        ∙ ap (λ es. es ++ later) (sym (if-kept k.set.now.text (get_or (kept_flags k) i false) h kept))
        ∙ sym hunk-whole

    -- behind the last line of a hunk
    pub hunk-over : (line next : ℕ) → length h.body.items ≤ line → left_at k.set.now.text (pairs k) i line next ≡ later
    hunk-over line next le =
        hunk-ahead line next
        ∙ ap (λ ls. body_edits next (body_of k.set.now.text ls) ++ later) (drop_all line h.body.items le)
        ∙ ap (λ es. es ++ later) (edits-none next)

    -- a hunk that isn't kept
    pub starts-over : (line next : ℕ) → get_or (kept_flags k) i false ≡ false → length h.body.items ≤ line → left_at k.set.now.text (pairs k) i line next ≡ edits_of k.set.now.text (drop i (pairs k))
    starts-over line next left_out le =
        hunk-over line next le
        ∙ ap (λ es. es ++ later) (sym (if-not k.set.now.text (get_or (kept_flags k) i false) h left_out))
        ∙ sym hunk-whole

    -- one line of a body
    pub line-ahead : (line next : ℕ) (l : HunkLine) → line < length h.body.items → l ≡ get_or h.body.items line l
        → left_at k.set.now.text (pairs k) i line next ≡ marked_edits l.mark next (bytes_at k.set.now.text l.span) (λ _. left_at k.set.now.text (pairs k) i (line + 1) (next + cond (is_on_side Forward l.mark) 1 0))
    line-ahead line next l within one =
        hunk-ahead line next
        ∙ edits-next k.set.now.text h.body.items line next l later within one
        ∙ ap (λ es. marked_edits l.mark next (bytes_at k.set.now.text l.span) (λ _. es)) (sym (hunk-ahead (line + 1) (next + cond (is_on_side Forward l.mark) 1 0)))

    -- the spans of a lawful hunk
    pub own : IsLawful k.set.now.text h
    own = subst (IsLawful k.set.now.text) (sym at) (is.lawful.lawful i h lt)

    pub line-lies : (line : ℕ) (l : HunkLine) → line < length h.body.items → l ≡ get_or h.body.items line l → LiesIn k.set.now.text l.span
    line-lies line l within one = subst (λ (x : HunkLine). LiesIn k.set.now.text x.span) (sym one) (own.within line l within)

-- ---- the kept hunks

whole : (h : PlainHunk) → hunk_edits (h ∷ []) ≡ body_edits (base h) h.body
whole h = flat_map-cons (λ (x : PlainHunk). body_edits (base x) x.body) h [] ∙ append-nil (body_edits (base h) h.body)

row-is : (text : List ℕ) (b : Bool) (h : Hunk) → hunk_edits (hunk_if (b, hunk_of text h)) ≡ edits_if text (b, h)
row-is text true h = whole (hunk_of text h)
row-is text false h = refl

rows-are : (text : List ℕ) (fs : List Bool) (hs : List Hunk) → hunk_edits (kept_hunks fs (hunks_of text hs)) ≡ edits_of text (zip fs hs)
rows-are text [] hs = refl
rows-are text (b ∷ fs) [] = refl
rows-are text (b ∷ fs) (h ∷ hs) =
    ap hunk_edits (flat_map-cons hunk_if (b, hunk_of text h) (zip fs (hunks_of text hs)))
    ∙ flat_map-append (λ (x : PlainHunk). body_edits (base x) x.body) (hunk_if (b, hunk_of text h)) (kept_hunks fs (hunks_of text hs))
    ∙ ap (λ es. es ++ hunk_edits (kept_hunks fs (hunks_of text hs))) (row-is text b h)
    ∙ ap (λ es. edits_if text (b, h) ++ es) (rows-are text fs hs)
    ∙ sym (flat_map-cons (edits_if text) (b, h) (zip fs hs))

pub edits-are : (k : Kept) → hunk_edits (left_hunks k) ≡ edits_of k.set.now.text (pairs k)
edits-are k = rows-are k.set.now.text (kept_flags k) k.hunks.now

-- ---- how many edits are left

abbrev lines_in : Hunk → ℕ
lines_in h = length h.body.items

sum-cons : (h : Hunk) (hs : List Hunk) → sum_by lines_in (h ∷ hs) ≡ lines_in h + sum_by lines_in hs
sum-cons h hs = sum_by-drop_more lines_in (h ∷ hs) 0 h (omega arith)

row-few : (text : List ℕ) (b : Bool) (h : Hunk) → length (edits_if text (b, h)) ≤ lines_in h
row-few text true h = omega (arith, body-few (base (hunk_of text h)) (body_of text h.body.items), length-map h.body.items (marked_of text))
row-few text false h = omega arith

rows-few : (text : List ℕ) (fs : List Bool) (hs : List Hunk) → length (edits_of text (zip fs hs)) ≤ sum_by lines_in hs
rows-few text [] hs = omega arith
rows-few text (b ∷ fs) [] = omega arith
rows-few text (b ∷ fs) (h ∷ hs) =
    omega (arith, ap length (flat_map-cons (edits_if text) (b, h) (zip fs hs)), length-append (edits_if text (b, h)) (edits_of text (zip fs hs)), row-few text b h, rows-few text fs hs, sum-cons h hs)

left-few : (text : List ℕ) (line next i : ℕ) (fs : List Bool) (hs : List Hunk) → length (left_from text line next (drop i (zip fs hs))) ≤ sum_by lines_in hs
left-few text line next zero [] hs = omega arith
left-few text line next zero (b ∷ fs) [] = omega arith
left-few text line next zero (b ∷ fs) (h ∷ hs) =
    omega (arith, length-append (body_edits next (body_of text (drop line h.body.items))) (edits_of text (zip fs hs)), body-few next (body_of text (drop line h.body.items)), length-map (drop line h.body.items) (marked_of text), length-drop line h.body.items, rows-few text fs hs, sum-cons h hs)
left-few text line next (suc i) [] hs = omega arith
left-few text line next (suc i) (b ∷ fs) [] = omega arith
left-few text line next (suc i) (b ∷ fs) (h ∷ hs) = omega (arith, left-few text line next i fs hs, sum-cons h hs)

pub few-left : (k : Kept) (is : IsKept k) (p : EditCursor) → length (edits_left k p) < 2 ^ 32
few-left k is p = omega (arith, left-few k.set.now.text p.line p.next p.hunk (kept_flags k) k.hunks.now, is.lawful.few)

pub same-left : (text : List ℕ) (rows : List (Bool × Hunk)) (h h2 l l2 n n2 : ℕ) → h ≡ h2 → l ≡ l2 → n ≡ n2 → left_at text rows h l n ≡ left_at text rows h2 l2 n2
same-left text rows h h2 l l2 n n2 e f g = ap (λ x. left_at text rows x l n) e ∙ ap (λ x. left_at text rows h2 x n) f ∙ ap (λ x. left_at text rows h2 l2 x) g

-- ---- one hunk of a walk from the end

pub pair-is : (k : Kept) (is : IsKept k) (i : ℕ) (h : Hunk) → i < length k.hunks.now → h ≡ get_or k.hunks.now i h → pair_left k i ≡ edits_if k.set.now.text (get_or (kept_flags k) i false, h)
pair-is k is i h lt at = ap (first_if k.set.now.text) (pair-at k is i h lt at)

pub whole-is : (k : Kept) (is : IsKept k) (i : ℕ) (h : Hunk) → i < length k.hunks.now → h ≡ get_or k.hunks.now i h → edits_of k.set.now.text (drop i (pairs k)) ≡ pair_left k i ++ later k is i
whole-is k is i h lt at = hunk-whole k is i h lt at ∙ ap (λ es. es ++ later k is i) (sym (pair-is k is i h lt at))

pub is-there : (hs : List Hunk) (i : ℕ) → i < length hs → (h : Hunk) × (h ≡ get_or hs i h)
is-there [] i lt = absurd (omega (arith, lt))
is-there (h ∷ hs) zero lt = (h, refl)
is-there (h ∷ hs) (suc i) lt = is-there hs i (omega (arith, lt))
