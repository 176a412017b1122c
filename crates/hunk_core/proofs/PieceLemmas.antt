-- The lines that a reader took are the lines of the piece of the text.
use Rattle.std.proofs.Common.{◌≡◌, ℕ, ◌-◌, ◌≤◌, ◌<◌, List, [], ◌∷◌, ◌++◌, length, take, drop, slice_range, refl, sym, ap, subst, ◌∙◌, arith, inl}
use Rattle.std.proofs.Math.Seq.{take-append_seam}
use Rattle.std.proofs.lemmas.List.{length-append, length-drop}
use Rattle.std.proofs.lemmas.List.Concat.{flat_map-append}
use Rattle.line_list.specs.Lines.{lines, ArePieces}
use Rattle.line_list.specs.declared.Span.{Span}
use Rattle.hunk_core.specs.PlainHunk.{PlainHunk, bytes_at}
use Rattle.hunk_core.specs.Pieces.{AreInTurn, AreWhole, SpellInTurn, SpansSoFar, last_start}
use Rattle.line_list.proofs.Pieces.{joined, lines-joined, lines-pieces, pieces-only}

-- the first of some pieces are pieces
pub pieces-first : (own rest : List (List ℕ)) → ArePieces (own ++ rest) → ArePieces own
pieces-first [] rest h = tt
pieces-first (line ∷ []) [] h = h
pieces-first (line ∷ []) (next ∷ rest) h = inl h.0
pieces-first (line ∷ other ∷ own) rest h = (h.0, pieces-first (other ∷ own) rest h.1)

-- and so are the others
pub pieces-last : (own rest : List (List ℕ)) → ArePieces (own ++ rest) → ArePieces rest
pieces-last [] rest h = h
pieces-last (line ∷ []) [] h = tt
pieces-last (line ∷ []) (next ∷ rest) h = h.1
pieces-last (line ∷ other ∷ own) rest h = pieces-last (other ∷ own) rest h.1

same-width : (text : List ℕ) (at next : ℕ) (own : List ℕ) → at ≤ next → next ≤ length text → drop at text ≡ own ++ drop next text → slice_range text at next ≡ own
same-width text at next own le high e =
    let width : next - at ≡ length own = omega (arith, ap length e, length-append own (drop next text), length-drop at text, length-drop next text) in
    ap (take (next - at)) e ∙ ap (λ n. take n (own ++ drop next text)) width ∙ take-append_seam own (drop next text)

pub piece-lines : (text : List ℕ) (at next : ℕ) (own : List (List ℕ)) → at ≤ next → next ≤ length text → lines (drop at text) ≡ own ++ lines (drop next text) → lines (slice_range text at next) ≡ own
piece-lines text at next own le high e =
    let whole : drop at text ≡ joined own ++ drop next text =
    sym (lines-joined (drop at text)) ∙ ap joined e ∙ flat_map-append (λ line. line) own (lines (drop next text)) ∙ ap (λ bs. joined own ++ bs) (lines-joined (drop next text)) in
    ap lines (same-width text at next (joined own) le high whole)
    ∙ pieces-only own (pieces-first own (lines (drop next text)) (subst ArePieces e (lines-pieces (drop at text))))

-- what was read ends where a line does
pub piece-whole : (text : List ℕ) (at next : ℕ) (own : List (List ℕ)) → at ≤ next → next ≤ length text → lines (drop at text) ≡ own ++ lines (drop next text) → lines (drop at text) ≡ lines (slice_range text at next) ++ lines (drop next text)
piece-whole text at next own le high e = e ∙ ap (λ ls. ls ++ lines (drop next text)) (sym (piece-lines text at next own le high e))

-- ---- one span behind the other
turn-push : (at : ℕ) (ss : List Span) (mid : ℕ) (s : Span) → AreInTurn at ss mid → s.start ≡ mid → mid < s.end → AreInTurn at (ss ++ s ∷ []) s.end
turn-push at [] mid s h start some = (start ∙ sym h, omega (arith, h, some), refl)
turn-push at (x ∷ ss) mid s h start some = (h.0, h.1, turn-push x.end ss mid s h.2 start some)

whole-push : (text : List ℕ) (ss : List Span) (s : Span) → AreWhole text ss → lines (drop s.start text) ≡ lines (bytes_at text s) ++ lines (drop s.end text) → AreWhole text (ss ++ s ∷ [])
whole-push text [] s so_far one = (one, tt)
whole-push text (x ∷ ss) s so_far one = (so_far.0, whole-push text ss s so_far.1 one)

spell-push : (Spells : ℕ → List (List ℕ) → PlainHunk → Type 0) (text : List ℕ) (least : ℕ) (ss : List Span) (hs : List PlainHunk) (s : Span) (h : PlainHunk)
    → SpellInTurn Spells text least ss hs → Spells (last_start least hs) (lines (bytes_at text s)) h → SpellInTurn Spells text least (ss ++ s ∷ []) (hs ++ h ∷ [])
spell-push Spells text least [] [] s h so_far one = (one, tt)
spell-push Spells text least [] (x ∷ hs) s h so_far one = absurd so_far
spell-push Spells text least (y ∷ ss) [] s h so_far one = absurd so_far
spell-push Spells text least (y ∷ ss) (x ∷ hs) s h so_far one = (so_far.0, spell-push Spells text x.old_start ss hs s h so_far.1 one)

last-push : (least : ℕ) (hs : List PlainHunk) (h : PlainHunk) → last_start least (hs ++ h ∷ []) ≡ h.old_start
last-push least [] h = refl
last-push least (x ∷ hs) h = last-push x.old_start hs h

pub spans_begin : (Spells : ℕ → List (List ℕ) → PlainHunk → Type 0) (text : List ℕ) (at : ℕ) (ss : List Span) → ss ≡ [] → SpansSoFar Spells text at ss [] at 0
spans_begin Spells text at ss none = rw none (record { turn = refl; whole = tt; pieces = tt; last = refl })

pub spans_go_on : (Spells : ℕ → List (List ℕ) → PlainHunk → Type 0) (text : List ℕ) (at : ℕ) (ss : List Span) (hs : List PlainHunk) (start end least : ℕ) (h : PlainHunk)
    → SpansSoFar Spells text at ss hs start least → start < end → lines (drop start text) ≡ lines (slice_range text start end) ++ lines (drop end text) → Spells least (lines (slice_range text start end)) h
    → SpansSoFar Spells text at (ss ++ (record { start = start; end = end }) ∷ []) (hs ++ h ∷ []) end h.old_start
spans_go_on Spells text at ss hs start end least h so_far some whole one = record {
  turn = turn-push at ss start (record { start = start; end = end }) so_far.turn refl some;
  whole = whole-push text ss (record { start = start; end = end }) so_far.whole whole;
  pieces = spell-push Spells text 0 ss hs (record { start = start; end = end }) h so_far.pieces (subst (λ l. Spells l (lines (slice_range text start end)) h) (sym so_far.last) one);
  last = last-push 0 hs h;
}
