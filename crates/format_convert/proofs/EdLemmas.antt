-- Commands of an ed script, written while edits come in front of others.
use Rattle.std.proofs.Common.{◌≡◌, ◌⊎◌, inl, inr, ℕ, zero, suc, ◌+◌, ◌-◌, ◌<◌, ◌≤◌, Bool, true, false, cond, eqb, List, [], ◌∷◌, ◌++◌, length, get_or, take, drop, refl, sym, ap, ◌∙◌, append_assoc, arith}
use Rattle.std.specs.Prelude.{nat_lt, reverse}
use Rattle.std.specs.List.{flat_map}
use Rattle.std.proofs.lemmas.Bool.Decides.{nat_tests}
use Rattle.std.proofs.lemmas.List.{append-nil, reverse-append}
use Rattle.std.proofs.lemmas.List.Sums.{count_by_more_no, count_by_more_yes}
use Rattle.hunk_core.proofs.SideLemmas.{lines-counted}
use Rattle.std.proofs.lemmas.Grind.{flat_map-append}
use Rattle.std.proofs.lemmas.List.Concat.{flat_map-cons}
use Rattle.hunk_core.specs.declared.Mark.{Mark}
use Rattle.hunk_core.specs.declared.Mark.TheVariants.{Keep, Drop, Add}
use Rattle.hunk_core.specs.declared.Side.TheVariants.{Forward, Reversed}
use Rattle.hunk_core.specs.declared.HunkLine.{HunkLine}
use Rattle.hunk_core.specs.PlainHunk.{Marked, body_of, bytes_at, lines_on}
use Rattle.hunk_core.specs.Sides.{is_on_side, taken_count}
use Rattle.format_convert.specs.Backward.{closing, closing_if, first_text, grown, text_behind}
use Rattle.format_convert.specs.Blocks.{Block, Edit, add_at, behind, block_of, blocks_of, body_edits, drop_at, in_front, marked_edits}
use Rattle.format_convert.specs.Commands.{ed_command, ed_head, ed_line, ed_lines, ed_text, goes_on}
use Rattle.format_convert.specs.declared.kept.Kept.{Kept}
use Rattle.format_convert.specs.declared.place.EditCursor.{EditCursor}
use Rattle.format_convert.specs.Walk.{edits_left}
use Rattle.hunk_core.specs.Turned.{is_keep}
use Rattle.format_convert.specs.Fronts.{begins_at, front, front_block, front_rest, is_on}
use Rattle.format_convert.proofs.FrontLemmas.{blocks-cons, blocks-front, blocks-none}
use Rattle.format_convert.proofs.Steps.{edits-mark, edits-next, edits-none}

-- ---- the lines of a text

pub lines-cons : (line : List ℕ) (more : List (List ℕ)) → ed_lines (line ∷ more) ≡ ed_line line (goes_on more) ++ ed_lines more
unfolding ed_lines
lines-cons line more = refl

pub lines-none : ed_lines [] ≡ []
unfolding ed_lines
lines-none = refl

more-is : (more : List (List ℕ)) (left : ℕ) → left ≡ length more → nat_lt 0 left ≡ goes_on more
more-is [] left e = grind (arith, nat_tests)
more-is (line ∷ more) left e = grind (arith, nat_tests)

-- the line of an edit, if it adds one, with what is left behind it
pub record Cut (adds : Bool) (line : List ℕ) (all more : List (List ℕ)) (left2 : ℕ) : Type 0 where
  pub text : ed_lines all ≡ cond adds (ed_line line (nat_lt 0 left2)) [] ++ ed_lines more
  pub left : left2 ≡ length more

pub cut-at : (adds : Bool) (line : List ℕ) (all more : List (List ℕ)) (left left2 : ℕ) → all ≡ cond (is_on Reversed adds) (line ∷ []) [] ++ more → left ≡ length all → left2 ≡ left - cond adds 1 0 → Cut adds line all more left2
cut-at true line all more left left2 is count next =
    let rest : left2 ≡ length more = omega (arith, count, next, ap length is) in
    record { text = ap ed_lines is ∙ lines-cons line more ∙ ap (λ b. ed_line line b ++ ed_lines more) (sym (more-is more left2 rest)); left = rest }
cut-at false line all more left left2 is count next = record { text = ap ed_lines is; left = omega (arith, count, next, ap length is) }

-- a line that is added is one of those that are left
pub one-left : (adds : Bool) (line : List ℕ) (all more : List (List ℕ)) (left : ℕ) → all ≡ cond (is_on Reversed adds) (line ∷ []) [] ++ more → left ≡ length all → adds ≡ true → 1 ≤ left
one-left true line all more left is count yes-is = omega (arith, count, ap length is)
one-left false line all more left is count yes-is = absurd cc

-- ---- a block

abbrev pub counted : ℕ → List Edit → ℕ → ℕ → List ℕ
counted q left old new = ed_head q old new ++ ed_lines (front Reversed q left)

pub counted-is : (q : ℕ) (left : List Edit) (old new : ℕ) → old ≡ length (front Forward q left) → new ≡ length (front Reversed q left) → counted q left old new ≡ ed_command (front_block q left)
counted-is q left old new e f = ap (λ (n : ℕ). counted q left n new) e ∙ ap (λ (n : ℕ). counted q left (length (front Forward q left)) n) f

-- ---- blocks from the last one

pub text-cons : (b : Block) (bs : List Block) → ed_text (b ∷ bs) ≡ ed_text bs ++ ed_command b
text-cons b bs =
    ap (flat_map ed_command) (reverse-append (b ∷ []) bs)
    ∙ flat_map-append ed_command (reverse bs) (b ∷ [])
    ∙ ap (λ t. ed_text bs ++ t) (flat_map-cons ed_command b [] ∙ append-nil (ed_command b))

pub text-ends : (bs : List Block) → text_behind bs ++ first_text bs ≡ ed_text bs
text-ends [] = refl
text-ends (b ∷ bs) = sym (text-cons b bs)

-- an edit in front of others
front-to : (e f : Edit) (es : List Edit) (b : Bool) → eqb (behind e) f.at ≡ b → blocks_of (f ∷ es) ≡ front_block f.at (f ∷ es) ∷ blocks_of (front_rest f.at (f ∷ es)) → text_behind (in_front e (blocks_of (f ∷ es))) ≡ text_behind (blocks_of (f ∷ es)) ++ closing (behind e) (f ∷ es)
front-to e f es true is first =
    let here : begins_at (behind e) (f ∷ es) ≡ true = grind (arith, nat_tests) in
    let rest = blocks_of (front_rest f.at (f ∷ es)) in
    ap (λ bs. text_behind (in_front e bs)) first
    ∙ ap (λ b. text_behind (cond b (block_of e (front Forward f.at (f ∷ es)) (front Reversed f.at (f ∷ es)) ∷ rest) (block_of e [] [] ∷ front_block f.at (f ∷ es) ∷ rest))) is
    ∙ sym (append-nil (ed_text rest))
    ∙ ap (λ b. ed_text rest ++ cond b [] (first_text (blocks_of (f ∷ es)))) (sym here)
    ∙ ap (λ bs. text_behind bs ++ closing (behind e) (f ∷ es)) (sym first)
front-to e f es false is first =
    let away : begins_at (behind e) (f ∷ es) ≡ false = grind (arith, nat_tests) in
    let rest = blocks_of (front_rest f.at (f ∷ es)) in
    ap (λ bs. text_behind (in_front e bs)) first
    ∙ ap (λ b. text_behind (cond b (block_of e (front Forward f.at (f ∷ es)) (front Reversed f.at (f ∷ es)) ∷ rest) (block_of e [] [] ∷ front_block f.at (f ∷ es) ∷ rest))) is
    ∙ text-cons (front_block f.at (f ∷ es)) rest
    ∙ ap (λ bs. ed_text rest ++ first_text bs) (sym first)
    ∙ ap (λ b. ed_text rest ++ cond b [] (first_text (blocks_of (f ∷ es)))) (sym away)
    ∙ ap (λ bs. text_behind bs ++ closing (behind e) (f ∷ es)) (sym first)

behind-front : (e : Edit) (es : List Edit) → text_behind (blocks_of (e ∷ es)) ≡ text_behind (blocks_of es) ++ closing (behind e) es
behind-front e [] =
    ap text_behind (blocks-cons e [] ∙ ap (in_front e) blocks-none)
    ∙ ap (λ bs. text_behind bs ++ first_text bs) (sym blocks-none)
behind-front e (f ∷ es) = ap text_behind (blocks-cons e (f ∷ es)) ∙ front-to e f es (eqb (behind e) f.at) refl (blocks-front f es)

pub grown-none : (left : List Edit) → grown [] left ≡ []
unfolding grown
grown-none left = refl

pub grown-cons : (e : Edit) (es left : List Edit) → grown (e ∷ es) left ≡ grown es left ++ closing (behind e) (es ++ left)
unfolding grown
grown-cons e es left = refl

-- what is written once edits came in front of others
pub grown-is : (es left : List Edit) → text_behind (blocks_of (es ++ left)) ≡ text_behind (blocks_of left) ++ grown es left
grown-is [] left = sym (ap (λ t. text_behind (blocks_of left) ++ t) (grown-none left) ∙ append-nil (text_behind (blocks_of left)))
grown-is (e ∷ es) left =
    behind-front e (es ++ left)
    ∙ ap (λ t. t ++ closing (behind e) (es ++ left)) (grown-is es left)
    ∙ append_assoc (text_behind (blocks_of left)) (grown es left) (closing (behind e) (es ++ left))
    ∙ ap (λ t. text_behind (blocks_of left) ++ t) (sym (grown-cons e es left))

pub grown-append : (es fs left : List Edit) → grown (es ++ fs) left ≡ grown fs left ++ grown es (fs ++ left)
grown-append [] fs left = sym (ap (λ t. grown fs left ++ t) (grown-none (fs ++ left)) ∙ append-nil (grown fs left))
grown-append (e ∷ es) fs left =
    grown-cons e (es ++ fs) left
    ∙ ap (λ t. t ++ closing (behind e) ((es ++ fs) ++ left)) (grown-append es fs left)
    ∙ append_assoc (grown fs left) (grown es (fs ++ left)) (closing (behind e) ((es ++ fs) ++ left))
    ∙ ap (λ xs. grown fs left ++ (grown es (fs ++ left) ++ closing (behind e) xs)) (append_assoc es fs left)
    ∙ ap (λ t. grown fs left ++ t) (sym (grown-cons e es (fs ++ left)))

-- ---- a body from its last line

pub back-line : (k : Mark) (q next : ℕ) (line : List ℕ) (es left : List Edit) → next ≡ q + cond (is_on_side Forward k) 1 0 → grown (marked_edits k q line (λ _. es)) left ≡ grown es left ++ closing_if k next (es ++ left)
back-line Keep q next line es left at = sym (append-nil (grown es left))
back-line Drop q next line es left at = grown-cons (drop_at q line) es left ∙ ap (λ n. grown es left ++ closing n (es ++ left)) (sym at)
back-line Add q next line es left at = grown-cons (add_at q line) es left ∙ ap (λ n. grown es left ++ closing n (es ++ left)) (let same : q ≡ next = omega (arith, at) in same)

pub edits-at : (text : List ℕ) (items : List HunkLine) (i q next : ℕ) (l : HunkLine) → i < length items → l ≡ get_or items i l → next ≡ q + cond (is_on_side Forward l.mark) 1 0
    → body_edits q (body_of text (drop i items)) ≡ marked_edits l.mark q (bytes_at text l.span) (λ _. body_edits next (body_of text (drop (i + 1) items)))
edits-at text items i q next l lt is at =
    sym (append-nil (body_edits q (body_of text (drop i items))))
    ∙ edits-next text items i q l [] lt is
    ∙ ap (λ n. marked_edits l.mark q (bytes_at text l.span) (λ _. body_edits n (body_of text (drop (i + 1) items)) ++ [])) (sym at)
    ∙ ap (λ es. marked_edits l.mark q (bytes_at text l.span) (λ _. es)) (append-nil (body_edits next (body_of text (drop (i + 1) items))))

-- the edits of a body up to a line, and from it on
split-mark : (k : Mark) (q : ℕ) (line : List ℕ) (ms : List Marked) (es : ℕ → List Edit) (rest : ℕ → List Edit) → ((p : ℕ) → body_edits p ms ≡ es p ++ rest p) → marked_edits k q line (λ next. body_edits next ms) ≡ marked_edits k q line es ++ rest (q + cond (is_on_side Forward k) 1 0)
split-mark Keep q line ms es rest each = each (q + 1)
split-mark Drop q line ms es rest each = ap (λ xs. drop_at q line ∷ xs) (each (q + 1))
split-mark Add q line ms es rest each = let same : q ≡ q + 0 = omega arith in ap (λ xs. add_at q line ∷ xs) (each q) ∙ ap (λ n. add_at q line ∷ (es q ++ rest n)) same

count-mark : (k : Mark) (line : List ℕ) (ms : List Marked) → length (lines_on Forward (record { mark = k; line = line } ∷ ms)) ≡ cond (is_on_side Forward k) 1 0 + length (lines_on Forward ms)
count-mark Keep line ms = omega arith
count-mark Drop line ms = omega arith
count-mark Add line ms = omega arith

count-cons : (l : HunkLine) (items : List HunkLine) → taken_count Forward (l ∷ items) ≡ cond (is_on_side Forward l.mark) 1 0 + taken_count Forward items
count-cons l items =
    sym (lines-counted [] Forward (l ∷ items))
    ∙ count-mark l.mark (bytes_at [] l.span) (body_of [] items)
    ∙ ap (λ n. cond (is_on_side Forward l.mark) 1 0 + n) (lines-counted [] Forward items)

pub split-body : (text : List ℕ) (items : List HunkLine) (i q : ℕ) → body_edits q (body_of text items) ≡ body_edits q (body_of text (take i items)) ++ body_edits (q + taken_count Forward (take i items)) (body_of text (drop i items))
split-body text [] zero q = edits-none q ∙ sym (edits-none (q + taken_count Forward [])) ∙ ap (λ es. es ++ body_edits (q + taken_count Forward []) []) (sym (edits-none q))
split-body text [] (suc i) q = edits-none q ∙ sym (edits-none (q + taken_count Forward [])) ∙ ap (λ es. es ++ body_edits (q + taken_count Forward []) []) (sym (edits-none q))
split-body text (l ∷ items) zero q =
    let same : q ≡ q + 0 = omega arith in
    ap (λ n. body_edits n (body_of text (l ∷ items))) same
    ∙ ap (λ es. es ++ body_edits (q + 0) (body_of text (l ∷ items))) (sym (edits-none q))
split-body text (l ∷ items) (suc i) q =
    let m : Marked = record { mark = l.mark; line = bytes_at text l.span } in
    let count = taken_count Forward (take i items) in
    let same : q + cond (is_on_side Forward l.mark) 1 0 + count ≡ q + taken_count Forward (l ∷ take i items) = omega (arith, count-cons l (take i items)) in
    edits-mark q m (body_of text items)
    ∙ split-mark l.mark q (bytes_at text l.span) (body_of text items) (λ p. body_edits p (body_of text (take i items))) (λ p. body_edits (p + count) (body_of text (drop i items))) (λ p. split-body text items i p)
    ∙ ap (λ es. es ++ body_edits (q + cond (is_on_side Forward l.mark) 1 0 + count) (body_of text (drop i items))) (sym (edits-mark q m (body_of text (take i items))))
    ∙ ap (λ n. body_edits q (m ∷ body_of text (take i items)) ++ body_edits n (body_of text (drop i items))) same

count-to : (items : List HunkLine) (i : ℕ) (l : HunkLine) (b : Bool) → i < length items → is_on_side Forward (get_or items i l).mark ≡ b → taken_count Forward (take (i + 1) items) ≡ taken_count Forward (take i items) + cond b 1 0
count-to items i l true lt is = count_by_more_yes (λ (x : HunkLine). is_on_side Forward x.mark) items i l lt is
count-to items i l false lt is = omega (arith, count_by_more_no (λ (x : HunkLine). is_on_side Forward x.mark) items i l lt is)

-- the old lines of a body up to a line, and behind it
pub count-next : (items : List HunkLine) (n i : ℕ) (l : HunkLine) → n ≡ i + 1 → i < length items → l ≡ get_or items i l → taken_count Forward (take n items) ≡ taken_count Forward (take i items) + cond (is_on_side Forward l.mark) 1 0
count-next items n i l at lt is =
    ap (λ k. taken_count Forward (take k items)) at
    ∙ count-to items i l (is_on_side Forward l.mark) lt (ap (λ (x : HunkLine). is_on_side Forward x.mark) (sym is))

-- one line back in a body
pub record Back (own : ℕ) (items : List HunkLine) (i : ℕ) (l : HunkLine) (next q : ℕ) : Type 0 where
  pub wide : next ≡ q + cond (is_on_side Forward l.mark) 1 0
  pub stands : q ≡ own + taken_count Forward (take i items)

back-to : (own taken less one next q : ℕ) → next ≡ own + taken → taken ≡ less + one → q ≡ next - one → (next ≡ q + one) × (q ≡ own + less)
back-to own taken less one next q is more less-is = (omega arith, omega arith)

pub back : (own : ℕ) (items : List HunkLine) (n i : ℕ) (l : HunkLine) (next q : ℕ) → n ≡ i + 1 → i < length items → l ≡ get_or items i l → next ≡ own + taken_count Forward (take n items) → q ≡ next - cond (is_on_side Forward l.mark) 1 0 → Back own items i l next q
back own items n i l next q at lt is ahead before =
    let b = back-to own _ (taken_count Forward (take i items)) _ next q ahead (count-next items n i l at lt is) before in
    record { wide = b.0; stands = b.1 }

pub one-on : (b : Bool) (n q : ℕ) → n ≡ q + cond b 1 0 → b ≡ true → 1 ≤ n
one-on true n q e yes-is = omega (arith, e)
one-on false n q e yes-is = absurd cc

-- a line that a walk from the end goes back over
module _ (text : List ℕ) (items : List HunkLine) (n i q next : ℕ) (l : HunkLine) (left : List Edit) (at : n ≡ i + 1) (lt : i < length items) (is : l ≡ get_or items i l) (wide : next ≡ q + cond (is_on_side Forward l.mark) 1 0) where
  abbrev pub ahead : List Edit
  ahead = body_edits next (body_of text (drop n items))

  pub one-more : body_edits q (body_of text (drop i items)) ≡ marked_edits l.mark q (bytes_at text l.span) (λ _. ahead)
  one-more = edits-at text items i q next l lt is wide ∙ ap (λ k. marked_edits l.mark q (bytes_at text l.span) (λ _. body_edits next (body_of text (drop k items)))) (sym at)

  pub grown-more : grown (body_edits q (body_of text (drop i items))) left ≡ grown ahead left ++ closing_if l.mark next (ahead ++ left)
  grown-more = ap (λ es. grown es left) one-more ∙ back-line l.mark q next (bytes_at text l.span) ahead left wide

-- the whole of a body begins with what is behind a line
pub grown-rest : (text : List ℕ) (items : List HunkLine) (i base q : ℕ) (left : List Edit) → q ≡ base + taken_count Forward (take i items)
    → grown (body_edits base (body_of text items)) left ≡ grown (body_edits q (body_of text (drop i items))) left ++ grown (body_edits base (body_of text (take i items))) (body_edits q (body_of text (drop i items)) ++ left)
grown-rest text items i base q left at =
    ap (λ es. grown es left) (split-body text items i base)
    ∙ ap (λ n. grown (body_edits base (body_of text (take i items)) ++ body_edits n (body_of text (drop i items))) left) (sym at)
    ∙ grown-append (body_edits base (body_of text (take i items))) (body_edits q (body_of text (drop i items))) left

keep-edits : (k : Mark) (q : ℕ) (line : List ℕ) (es : List Edit) → is_keep k ≡ true → marked_edits k q line (λ _. es) ≡ es
keep-edits Keep q line es is = refl
keep-edits Drop q line es is = absurd cc
keep-edits Add q line es is = absurd cc

either : (k : Kept) (b : Bool) (front place p : EditCursor) (whole : List Edit) → p ≡ cond b front place → (b ≡ true → edits_left k front ≡ whole) → edits_left k place ≡ whole → edits_left k p ≡ whole
either k true front place p whole e f g = ap (edits_left k) e ∙ f refl
either k false front place p whole e f g = ap (edits_left k) e ∙ g

-- the front behind a line: it is the place there, unless the line is kept
pub front-is : (k : Kept) (mark : Mark) (q : ℕ) (line : List ℕ) (es own left : List Edit) (front place p : EditCursor) → p ≡ cond (is_keep mark) front place → own ≡ marked_edits mark q line (λ _. es) → edits_left k front ≡ es ++ left → edits_left k place ≡ own ++ left → edits_left k p ≡ own ++ left
front-is k mark q line es own left front place p e more was at =
    either k (is_keep mark) front place p (own ++ left) e (λ kept. was ∙ ap (λ xs. xs ++ left) (sym (more ∙ keep-edits mark q line es kept))) at

-- ---- all hunks, from the last one

-- the blocks of what is in front of others come behind these
pub text-rest : (es left : List Edit) → ed_text (blocks_of (es ++ left)) ≡ text_behind (blocks_of left) ++ (grown es left ++ first_text (blocks_of (es ++ left)))
text-rest es left =
    sym (text-ends (blocks_of (es ++ left)))
    ∙ ap (λ t. t ++ first_text (blocks_of (es ++ left))) (grown-is es left)
    ∙ append_assoc (text_behind (blocks_of left)) (grown es left) (first_text (blocks_of (es ++ left)))

-- a line that isn't kept
pub not-keep : (m : Mark) → (m ≡ Drop) ⊎ (m ≡ Add) → is_keep m ≡ false
not-keep m (inl e) = ap is_keep e
not-keep m (inr e) = ap is_keep e
