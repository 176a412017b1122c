-- Where the file patches lie that were read.
use Rattle.std.proofs.Common.{ℕ, ◌+◌, List, [], ◌∷◌}
use Rattle.patch_header.specs.declared.read_options.ReadOptions.{ReadOptions}
use Rattle.read_file_patch.specs.declared.FilePatch.{FilePatch}
use Rattle.read_file_patch.specs.PlainPatch.{row_count}
use Rattle.read_patch_text.specs.Spans.{IsPatch, LieInTurn, ArePatches}
use Rattle.patch_set.specs.Spans.{IsPlaced, ArePlaced}

placed : (text : List ℕ) (start before next : ℕ) (p : FilePatch) → IsPatch text start before p next → IsPlaced text start before p
placed text start before next p at = record {
  begins = at.begins;
  region = at.region;
  cut = at.cut;
  each = at.each;
  pieces = at.pieces;
  some = at.some;
  high = at.high;
  number = at.opening;
  first = at.first;
}

in-turn : (ways : ReadOptions) (text : List ℕ) (start number before end next : ℕ) (ps : List FilePatch) → LieInTurn ways text start number before ps end next → ArePlaced text start before ps
in-turn ways text start number before end next [] lie = tt
in-turn ways text start number before end next (p ∷ ps) lie = (placed text start before lie.0 p lie.2, in-turn ways text p.span.end lie.0 (before + row_count p.change) end next ps lie.3)

-- the file patches of a text lie one behind the other
pub are-placed : (ways : ReadOptions) (text : List ℕ) (ps : List FilePatch) → ArePatches ways text ps → ArePlaced text 0 0 ps
are-placed ways text ps are = in-turn ways text 0 1 0 are.end are.next ps are.turn
