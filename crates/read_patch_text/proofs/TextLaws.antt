-- What a text has by the grammars is what is read.
use Rattle.std.proofs.Common.{◌≡◌, ℕ, ◌+◌, ◌<◌, Bool, true, false, cond, List, [], ◌∷◌, ◌++◌, length, drop, None, Some, Ok, refl, sym, ap, subst, ◌∙◌, append_assoc, arith, map, ◌<◌}
use Rattle.std.proofs.lemmas.List.{append-nil}
use Rattle.line_list.specs.Lines.{lines}
use Rattle.line_list.proofs.LineLemmas.{lines-end}
use Rattle.hunk_core.specs.declared.Form.{Form}
use Rattle.hunk_core.specs.declared.Form.TheVariants.{Unified, Context, Normal, Ed}
use Rattle.hunk_core.specs.Reading.{◌>>=◌, ahead}
use Rattle.unified_form.proofs.Pieces as unified
use Rattle.context_form.proofs.Pieces as context
use Rattle.normal_form.proofs.Pieces as normal
use Rattle.ed_form.proofs.Pieces as ed
use Rattle.read_header_record.specs.declared.Header.{Header}
use Rattle.patch_header.specs.declared.search.HeaderStep.TheVariants.{Found, End}
use Rattle.patch_header.specs.declared.read_options.ReadOptions.{ReadOptions}
use Rattle.patch_header.specs.Steps.{IsEnd, next_step}
use Rattle.patch_header.proofs.StepLemmas.{one-step}
use Rattle.read_file_patch.specs.PlainPatch.{PlainChange, PlainPatch, hunks, script, patch_of, row_count}
use Rattle.read_file_patch.specs.declared.FilePatch.{FilePatch}
use Rattle.read_patch_text.specs.Spans.{LieInTurn, ArePatches}
use Rattle.read_patch_text.specs.Patches.{as_hunks, as_script, bare_change, change_at, change_behind, patch_with, patch_by, next_patch, patches_of}
use Rattle.read_patch_text.specs.Texts.{GoesUpTo, IsPiece, StandsFirst, Stand, HasPatches}
use Rattle.read_patch_text.proofs.TextLoops.{PatchesSoFar, patches_begin, patches_go_on, patches_done}

-- a change that is spelled is read
change-again : (form : Form) (number : ℕ) (all : List (List ℕ)) (change : PlainChange) (next : ℕ) (rest : List (List ℕ)) → IsPiece form number all change next rest → change_at form number all ≡ Ok (change, ahead next rest)
unfolding change_at
change-again Unified number all (hunks hs) next rest h = ap (λ r. r >>= as_hunks) (unified.reading_again number all hs next rest h)
change-again Context number all (hunks hs) next rest h = ap (λ r. r >>= as_hunks) (context.reading_again number all hs next rest h)
change-again Normal number all (hunks hs) next rest h = ap (λ r. r >>= as_hunks) (normal.reading_again number all hs next rest h)
change-again Ed number all (script es) next rest h = ap (λ r. r >>= as_script) (ed.reading_again number all es next rest h)
change-again Unified number all (script es) next rest h = absurd h
change-again Context number all (script es) next rest h = absurd h
change-again Normal number all (script es) next rest h = absurd h
change-again Ed number all (hunks hs) next rest h = absurd h

-- what a header opens is read
pub behind-again : (text : List ℕ) (h : Header) (change : PlainChange) (end next : ℕ) → GoesUpTo text h change end next → change_behind text h ≡ Ok (change, ahead next (lines (drop end text)))
behind-again text h change end next g = by h.bare refl
  where
    by : (b : Bool) → h.bare ≡ b → cond b (Ok (bare_change text h.at h.opening)) (change_at h.form h.opening (lines (drop h.at text))) ≡ Ok (change, ahead next (lines (drop end text)))
    by true e = let one = g.bare e in rw (one.none, one.ends, one.counted) refl
    by false e = change-again h.form h.opening (lines (drop h.at text)) change next (lines (drop end text)) (g.spelled e)

patch-again : (ways : ReadOptions) (text : List ℕ) (at number : ℕ) (p : PlainPatch) (end next : ℕ) → StandsFirst ways text at number p end next → next_patch ways text at number ≡ Ok (Some (p, ahead next (lines (drop end text))))
patch-again ways text at number p end next h =
    let step : Found h.header ≡ next_step ways text at number = one-step ways text at number (Found h.header) h.opens in
    let read = behind-again text h.header p.change end next h.goes in
    ap (patch_by text) (sym step)
    ∙ ap (λ r. (r >>= λ x. Ok (patch_with text h.header x.0, x.1)) >>= λ x. Ok (Some x)) read
    ∙ ap (λ q. Ok (Some (record { header = q; change = p.change }, ahead next (lines (drop end text))))) (sym h.says)

end-again : (ways : ReadOptions) (text : List ℕ) (at number : ℕ) → IsEnd ways text at → next_patch ways text at number ≡ Ok None
end-again ways text at number h = ap (patch_by text) (sym (one-step ways text at number End h))

all-again : (ways : ReadOptions) (text : List ℕ) (front ps : List PlainPatch) (at number end next : ℕ) → Stand ways text at number ps end next → IsEnd ways text end → PatchesSoFar ways text front at number → patches_of ways text ≡ Ok (front ++ ps)
all-again ways text front [] at number end next h ends so_far =
    let none : next_patch ways text at number ≡ Ok None = end-again ways text at number (subst (IsEnd ways text) (sym h.0) ends) in
    patches_done ways text front at number none so_far ∙ ap Ok (sym (append-nil front))
all-again ways text front (p ∷ ps) at number end next h ends so_far =
    let mid = h.0 in
    let line = h.1 in
    let one = h.2 in
    let further = patches_go_on ways text front at number mid line p one.some one.high (patch-again ways text at number p mid line one) so_far in
    all-again ways text (front ++ p ∷ []) ps mid line end next h.3 ends further ∙ ap Ok (append_assoc front (p ∷ []) ps)

pub text-again : (ways : ReadOptions) (text : List ℕ) (ps : List PlainPatch) → HasPatches ways text ps → patches_of ways text ≡ Ok ps
text-again ways text ps h = all-again ways text [] ps 0 1 h.end h.next h.stand h.ends (patches_begin ways text)

-- nothing stands at the end of the text
pub quiet-end : (ways : ReadOptions) (text : List ℕ) (at : ℕ) → at ≡ length text → IsEnd ways text at
quiet-end ways text at e = rw (lines-end text at e) tt

-- what was read in turn stands so
pub turn-stands : (ways : ReadOptions) (text : List ℕ) (start number before : ℕ) (ps : List FilePatch) (end next : ℕ) → LieInTurn ways text start number before ps end next → Stand ways text start number (map (patch_of text) ps) end next
turn-stands ways text start number before [] end next h = h
turn-stands ways text start number before (p ∷ ps) end next h =
    let opens = h.1 in
    let is = h.2 in
    let far : start < p.span.end = omega (arith, is.region, is.some) in
    let one : StandsFirst ways text start number (patch_of text p) p.span.end h.0 = record { header = p.header; opens = opens; says = refl; goes = is.goes; some = far; high = is.high } in
    (p.span.end, h.0, one, turn-stands ways text p.span.end h.0 (before + row_count p.change) ps end next h.3)

pub patches-are : (ways : ReadOptions) (text : List ℕ) (ps : List FilePatch) → ArePatches ways text ps → HasPatches ways text (map (patch_of text) ps)
patches-are ways text ps h = record { end = h.end; next = h.next; stand = turn-stands ways text 0 1 0 ps h.end h.next h.turn; ends = h.ends }
