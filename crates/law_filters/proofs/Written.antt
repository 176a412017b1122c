-- Lists of lines whose joined text is read as the same lines.
use Rattle.std.proofs.Common.{◌≡◌, inl, inr, ℕ, ◌+◌, ◌≤◌, Bool, true, false, List, [], ◌∷◌, ◌++◌, length, map, refl, sym, ap, subst, ◌∙◌, arith}
use Rattle.std.specs.List.{AllByRecursion}
use Rattle.std.proofs.lemmas.List.{length-append}
use Rattle.std.proofs.lemmas.List.Concat.{flat_map-cons}
use Rattle.line_list.specs.Join.{feed_if, join, lacks_feed}
use Rattle.line_list.specs.Lines.{ArePieces, IsLine, lines}
use Rattle.line_list.proofs.JoinLemmas.{join-lines, open-lacks, join-one}
use Rattle.line_list.proofs.Pieces.{joined, lines-pieces, pieces-only}
use Rattle.line_list.proofs.WholeLines.{IsPieceLine, ArePieceLines, front-all, rest-all, pieces-all}
use Rattle.hunk_core.specs.declared.Mark.{Mark}
use Rattle.hunk_core.specs.declared.Mark.TheVariants.{Keep, Drop, Add}
use Rattle.hunk_core.specs.PlainHunk.{Marked, PlainHunk, old_lines, new_lines}
use Rattle.hunk_core.specs.Turned.{base, swapped}
use Rattle.hunk_apply.specs.Applied.{applied}
use Rattle.hunk_apply.specs.Splice.{spliced}
use Rattle.law_filters.specs.Turnable.{ArePlacedExactly, AreTurnable, HaveLines, edits_in}
use Rattle.law_filters.proofs.Turned.{both, new-is, undone-law}
use Rattle.law_filters.proofs.Turns.{Turns}

together : (xs ys : List (List ℕ)) → ArePieceLines xs → ArePieceLines ys → ArePieceLines (xs ++ ys)
together [] ys all also = also
together (x ∷ xs) ys all also = (all.0, together xs ys all.1 also)

new-have : (ms : List Marked) → AllByRecursion (λ m. IsPieceLine m.line) ms → ArePieceLines (new_lines ms)
new-have [] all = tt
new-have (m ∷ ms) all = by m.mark all.0 (new-have ms all.1)
  where
    by : (k : Mark) → IsPieceLine m.line → ArePieceLines (new_lines ms) → let y : Marked = record { mark = k; line = m.line } in ArePieceLines (new_lines (y ∷ ms))
    by Keep here again = (here, again)
    by Drop here again = again
    by Add here again = (here, again)

turns-have : (q r : ℕ) (old new : List (List ℕ)) (hs : List PlainHunk) → Turns q r old new hs → ArePieceLines old → HaveLines hs → ArePieceLines new
turns-have q r old new [] ts all bodies = subst ArePieceLines ts all
turns-have q r old new (h ∷ hs) (front, (rest, (more, (t, ts)))) all bodies =
    let whole = subst ArePieceLines t.from all in
    let behind = rest-all (old_lines h.body) rest (rest-all front (old_lines h.body ++ rest) whole) in
    let again = turns-have (base h + length (old_lines h.body)) (base (swapped h) + length (new_lines h.body)) rest more hs ts behind bodies.1 in
    subst ArePieceLines (sym t.to) (together front (new_lines h.body ++ more) (front-all front (old_lines h.body ++ rest) whole) (together (new_lines h.body) more (new-have h.body bodies.0) again))

join-more : (l k : List ℕ) (ls : List (List ℕ)) → join (l ∷ k ∷ ls) ≡ (l ++ feed_if (lacks_feed l)) ++ join (k ∷ ls)
unfolding join
join-more l k ls = refl

long-more : (l k : List ℕ) (ls : List (List ℕ)) → length (join (l ∷ k ∷ ls)) ≡ length l + length (feed_if (lacks_feed l)) + length (join (k ∷ ls))
long-more l k ls = ap length (join-more l k ls) ∙ length-append (l ++ feed_if (lacks_feed l)) (join (k ∷ ls)) ∙ ap (λ n. n + length (join (k ∷ ls))) (length-append l (feed_if (lacks_feed l)))

joined-long : (l : List ℕ) (ls : List (List ℕ)) → length (joined (l ∷ ls)) ≡ length l + length (joined ls)
joined-long l ls = ap length (flat_map-cons (λ line. line) l ls) ∙ length-append l (joined ls)

-- joining takes nothing away
not-shorter : (ls : List (List ℕ)) → length (joined ls) ≤ length (join ls)
not-shorter [] = omega arith
not-shorter (l ∷ []) = let none : length (joined []) ≡ 0 = refl in omega (arith, joined-long l [], ap length (join-one l), none)
not-shorter (l ∷ k ∷ ls) = omega (arith, not-shorter (k ∷ ls), long-more l k ls, joined-long l (k ∷ ls))

feeds-none : (b : Bool) → length (feed_if b) ≡ 0 → b ≡ false
feeds-none true e = absurd (omega (arith, e))
feeds-none false e = refl

whole-line : (l : List ℕ) → IsPieceLine l → lacks_feed l ≡ false → IsLine l
whole-line l (inl is) e = is
whole-line l (inr open_) e = let bad : true ≡ false = sym (open-lacks l open_) ∙ e in absurd (cc)

-- where it adds nothing, each line but the last has its line feed
pieces-joined : (ls : List (List ℕ)) → ArePieceLines ls → length (join ls) ≡ length (joined ls) → ArePieces ls
pieces-joined [] all e = tt
pieces-joined (l ∷ []) all e = all.0
pieces-joined (l ∷ k ∷ ls) all e =
    let none : length (feed_if (lacks_feed l)) ≡ 0 = omega (arith, e, not-shorter (k ∷ ls), long-more l k ls, joined-long l (k ∷ ls)) in
    (whole-line l all.0 (feeds-none (lacks_feed l) none), pieces-joined (k ∷ ls) all.1 (omega (arith, e, none, long-more l k ls, joined-long l (k ∷ ls))))

applied-join : (ls : List (List ℕ)) (fuzz : ℕ) (hs : List PlainHunk) → applied ls fuzz false hs ≡ join (spliced ls (edits_in ls fuzz hs))
unfolding applied
applied-join ls fuzz hs = refl

pub read-law : (text : List ℕ) (fuzz : ℕ) (hs : List PlainHunk) → ArePlacedExactly (lines text) fuzz hs → AreTurnable hs → HaveLines hs
    → join (spliced (lines text) (edits_in (lines text) fuzz hs)) ≡ joined (spliced (lines text) (edits_in (lines text) fuzz hs))
    → lines (applied (lines text) fuzz false hs) ≡ spliced (lines text) (edits_in (lines text) fuzz hs)
read-law text fuzz hs e t bodies same =
    let w = both (lines text) fuzz hs e t in
    let new : List (List ℕ) = spliced (lines text) (edits_in (lines text) fuzz hs) in
    let have : ArePieceLines new = subst ArePieceLines (sym (new-is (lines text) w.0 fuzz hs e w.1)) (turns-have 1 1 (lines text) w.0 hs w.1 (pieces-all (lines text) (lines-pieces text)) bodies) in
    ap lines (applied-join (lines text) fuzz hs ∙ same) ∙ pieces-only new (pieces-joined new have (ap length same))

pub text-law : (text : List ℕ) (fuzz most : ℕ) (hs : List PlainHunk) → ArePlacedExactly (lines text) fuzz hs → AreTurnable hs → HaveLines hs
    → join (spliced (lines text) (edits_in (lines text) fuzz hs)) ≡ joined (spliced (lines text) (edits_in (lines text) fuzz hs))
    → applied (lines (applied (lines text) fuzz false hs)) most false (map swapped hs) ≡ text
text-law text fuzz most hs e t bodies same =
    ap (λ ls. applied ls most false (map swapped hs)) (read-law text fuzz hs e t bodies same)
    ∙ applied-join (spliced (lines text) (edits_in (lines text) fuzz hs)) most (map swapped hs)
    ∙ ap join (undone-law (lines text) fuzz most hs e t) ∙ join-lines text
