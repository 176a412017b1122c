-- One file patch of a set, and where the pieces of its hunks lie.
use Rattle.std.proofs.Common.{◌≡◌, ℕ, zero, suc, ◌+◌, ◌<◌, ◌≤◌, Bool, true, false, List, [], ◌∷◌, length, Some, refl, ap, subst, arith}
use Rattle.std.specs.Prelude.{slice_get}
use Rattle.std.proofs.lemmas.Option.{same_Some}
use Rattle.line_list.specs.declared.Span.{Span}
use Rattle.hunk_core.specs.Pieces.{AreInTurn}
use Rattle.read_header_record.specs.declared.Header.{Header}
use Rattle.read_file_patch.specs.declared.FilePatch.{FilePatch}
use Rattle.read_file_patch.specs.PlainPatch.{row_count}
use Rattle.read_patch_text.specs.Changes.{AreCut}
use Rattle.patch_set.specs.Spans.{IsPlaced, ArePlaced}

by-itself : (text : List ℕ) (start before : ℕ) (p : FilePatch) → IsPlaced text start before p → IsPlaced text p.span.start p.first_verdict p
by-itself text start before p at = record {
  begins = refl;
  region = omega (arith, at.begins, at.region);
  cut = at.cut;
  each = at.each;
  pieces = at.pieces;
  some = at.some;
  high = at.high;
  number = at.number;
  first = refl;
}

pub placed-at : (text : List ℕ) (start before : ℕ) (ps : List FilePatch) (i : ℕ) (p : FilePatch) → ArePlaced text start before ps → slice_get ps i ≡ Some p → IsPlaced text p.span.start p.first_verdict p
placed-at text start before [] i p at is = absurd cc
placed-at text start before (q ∷ ps) zero p at is = subst (λ x. IsPlaced text x.span.start x.first_verdict x) (same_Some q p is) (by-itself text start before q at.0)
placed-at text start before (q ∷ ps) (suc i) p at is = placed-at text q.span.end (before + row_count q.change) ps i p at.1 is

-- one that has a hunk is no bare git header, so its pieces make up what it opens
pub turn-of : (h : Header) (ss : List Span) (end i : ℕ) → AreCut h ss end → i < length ss → AreInTurn h.at ss end
turn-of h ss end i cut lt = by h.bare refl
  where
    by : (b : Bool) → h.bare ≡ b → AreInTurn h.at ss end
    by false is = cut.turn is
    by true is = absurd (omega (arith, lt, ap length (cut.none is)))

pub turn-with : (text : List ℕ) (start before : ℕ) (p : FilePatch) (hunk : ℕ) → IsPlaced text start before p → hunk < row_count p.change → AreInTurn p.header.at p.hunk_spans.items p.span.end
turn-with text start before p hunk at lt = turn-of p.header p.hunk_spans.items p.span.end hunk at.cut (omega (arith, lt, at.each))

pub turn-end : (at : ℕ) (ss : List Span) (end : ℕ) → AreInTurn at ss end → at ≤ end
turn-end at [] end turn = omega (arith, turn)
turn-end at (s ∷ ss) end turn = omega (arith, turn.1, turn-end s.end ss end turn.2)

pub span-in : (at : ℕ) (ss : List Span) (end i : ℕ) (s : Span) → AreInTurn at ss end → slice_get ss i ≡ Some s → (s.start < s.end) × (s.end ≤ end)
span-in at [] end i s turn is = absurd cc
span-in at (t ∷ ss) end zero s turn is = subst (λ (x : Span). (x.start < x.end) × (x.end ≤ end)) (same_Some t s is) (omega (arith, turn.0, turn.1), turn-end t.end ss end turn.2)
span-in at (t ∷ ss) end (suc i) s turn is = span-in t.end ss end i s turn.2 is
