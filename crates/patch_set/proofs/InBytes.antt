-- The file patches of a set as plain bytes.
use Rattle.std.proofs.Common.{◌≡◌, ℕ, ◌+◌, Bool, true, false, List, [], ◌∷◌, map, slice_range, refl, ap, ◌∙◌}
use Rattle.line_list.specs.declared.Span.{Span}
use Rattle.hunk_core.specs.PlainHunk.{bytes_at}
use Rattle.hunk_core.specs.Pieces.{AreInTurn}
use Rattle.read_header_record.specs.declared.Header.{Header}
use Rattle.read_file_patch.specs.declared.FilePatch.{FilePatch}
use Rattle.read_file_patch.specs.PlainPatch.{row_count}
use Rattle.read_patch_text.specs.Changes.{AreCut}
use Rattle.read_patch_text.specs.Regions.{region_of}
use Rattle.read_patch_text.specs.Spelled.{cut_at, spelled_at, spelled_in, spelled_of}
use Rattle.patch_set.specs.Spans.{IsPlaced, ArePlaced}
use Rattle.patch_set.specs.SetView.{SetView, IsWhole}

turn-bytes : (text : List ℕ) (at : ℕ) (ss : List Span) (end : ℕ) → AreInTurn at ss end → map (bytes_at text) ss ≡ cut_at text at (map (λ s. s.end) ss)
turn-bytes text at [] end turn = refl
turn-bytes text at (s ∷ ss) end turn =
    ap (λ k. slice_range text k s.end ∷ map (bytes_at text) ss) turn.0
    ∙ ap (λ ts. slice_range text at s.end ∷ ts) (turn-bytes text s.end ss end turn.2)

pub cut-bytes : (text : List ℕ) (h : Header) (ss : List Span) (end : ℕ) → AreCut h ss end → map (bytes_at text) ss ≡ cut_at text h.at (map (λ s. s.end) ss)
cut-bytes text h ss end cut = by h.bare refl
  where
    by : (b : Bool) → h.bare ≡ b → map (bytes_at text) ss ≡ cut_at text h.at (map (λ s. s.end) ss)
    by true is = rw (cut.none is) refl
    by false is = turn-bytes text h.at ss end (cut.turn is)

one-bytes : (text : List ℕ) (start before : ℕ) (p : FilePatch) → IsPlaced text start before p → spelled_of text p ≡ spelled_at text (region_of p)
one-bytes text start before p at = rw (cut-bytes text p.header p.hunk_spans.items p.span.end at.cut) refl

all-bytes : (text : List ℕ) (start before : ℕ) (ps : List FilePatch) → ArePlaced text start before ps → map (spelled_of text) ps ≡ map (spelled_at text) (map region_of ps)
all-bytes text start before [] at = refl
all-bytes text start before (p ∷ ps) at =
    ap (λ s. s ∷ map (spelled_of text) ps) (one-bytes text start before p at.0)
    ∙ ap (λ ss. spelled_at text (region_of p) ∷ ss) (all-bytes text p.span.end (before + row_count p.change) ps at.1)

pub set-bytes : (v : SetView) → IsWhole v → map (spelled_of v.text) v.patches ≡ spelled_in v.ways v.text
set-bytes v whole = all-bytes v.text 0 0 v.patches whole.placed ∙ ap (map (spelled_at v.text)) whole.regions
