-- Where file patches lie is what the text says.
use Rattle.std.proofs.Common.{◌≡◌, ℕ, zero, suc, ◌+◌, ◌≤◌, List, [], ◌∷◌, length, drop, map, None, Some, refl, sym, ap, subst, ◌∙◌, arith}
use Rattle.line_list.specs.Lines.{lines}
use Rattle.hunk_core.specs.Reading.{Ahead, ahead}
use Rattle.patch_header.specs.declared.search.HeaderStep.TheVariants.{Found, End}
use Rattle.patch_header.specs.declared.read_options.ReadOptions.{ReadOptions}
use Rattle.patch_header.specs.Steps.{IsFirstOpening, IsEnd, next_step}
use Rattle.patch_header.proofs.StepLemmas.{one-step}
use Rattle.read_file_patch.specs.PlainPatch.{change_of, row_count}
use Rattle.read_file_patch.specs.declared.FilePatch.{FilePatch}
use Rattle.read_patch_text.specs.Patches.{place_before}
use Rattle.read_patch_text.specs.Regions.{region_of, region_up_to, region_with, region_by, next_region, with_later, regions_at, regions_of}
use Rattle.read_patch_text.specs.Spans.{IsPatch, LieInTurn, ArePatches}
use Rattle.read_patch_text.proofs.TextLoops.{place-back}
use Rattle.read_patch_text.proofs.TextLaws.{behind-again}

same-region : (text : List ℕ) (start before : ℕ) (p : FilePatch) (line : ℕ) → IsPatch text start before p line → region_up_to text start p.header p.span.end ≡ region_of p
same-region text start before p line is = rw (is.begins, is.ends) refl

-- a file patch lies where the next region is
region-next : (ways : ReadOptions) (text : List ℕ) (start number before : ℕ) (p : FilePatch) (line : ℕ) → IsFirstOpening ways text start number p.header → IsPatch text start before p line
    → next_region ways text start number ≡ Some (region_of p, ahead line (lines (drop p.span.end text)))
region-next ways text start number before p line opens is =
    let step : Found p.header ≡ next_step ways text start number = one-step ways text start number (Found p.header) opens in
    let read = behind-again text p.header (change_of text p.change) p.span.end line is.goes in
    let behind : Ahead = ahead line (lines (drop p.span.end text)) in
    let place : place_before text (lines (drop p.span.end text)) ≡ p.span.end = place-back text p.span.end is.high in
    ap (region_by text start) (sym step)
    ∙ ap (region_with text start p.header) read
    ∙ ap (λ k. Some (region_up_to text start p.header k, behind)) place
    ∙ ap (λ r. Some (r, behind)) (same-region text start before p line is)

pub region-none : (ways : ReadOptions) (text : List ℕ) (at number : ℕ) → IsEnd ways text at → next_region ways text at number ≡ None
region-none ways text at number h = ap (region_by text at) (sym (one-step ways text at number End h))

-- ---- all of them

pub regions-step : (most : ℕ) (ways : ReadOptions) (text : List ℕ) (at number : ℕ) → regions_at (suc most) ways text at number ≡ with_later (λ p. regions_at most ways text (place_before text p.rest) p.number) (next_region ways text at number)
unfolding regions_at
regions-step most ways text at number = refl

pub regions-zero : (ways : ReadOptions) (text : List ℕ) (at number : ℕ) → regions_at zero ways text at number ≡ []
unfolding regions_at
regions-zero ways text at number = refl

all-regions : (most : ℕ) (ways : ReadOptions) (text : List ℕ) (start number before : ℕ) (ps : List FilePatch) (end next : ℕ) → length text ≤ start + most → LieInTurn ways text start number before ps end next → IsEnd ways text end
    → regions_at most ways text start number ≡ map region_of ps
all-regions zero ways text start number before [] end next enough h ends = regions-zero ways text start number
all-regions (suc most) ways text start number before [] end next enough h ends =
    let none : next_region ways text start number ≡ None = region-none ways text start number (subst (IsEnd ways text) (sym h.0) ends) in
    regions-step most ways text start number ∙ ap (with_later (λ p. regions_at most ways text (place_before text p.rest) p.number)) none
all-regions zero ways text start number before (p ∷ ps) end next enough h ends = absurd (let is = h.2 in omega (arith, enough, is.region, is.some, is.high))
all-regions (suc most) ways text start number before (p ∷ ps) end next enough h ends =
    let line = h.0 in
    let is = h.2 in
    let place : place_before text (lines (drop p.span.end text)) ≡ p.span.end = place-back text p.span.end is.high in
    regions-step most ways text start number
    ∙ ap (with_later (λ q. regions_at most ways text (place_before text q.rest) q.number)) (region-next ways text start number before p line h.1 is)
    ∙ ap (λ k. region_of p ∷ regions_at most ways text k line) place
    ∙ ap (λ rs. region_of p ∷ rs) (all-regions most ways text p.span.end line (before + row_count p.change) ps end next (omega (arith, enough, is.region, is.some)) h.3 ends)

pub regions-are : (ways : ReadOptions) (text : List ℕ) (ps : List FilePatch) → ArePatches ways text ps → map region_of ps ≡ regions_of ways text
regions-are ways text ps h = sym (all-regions (length text) ways text 0 1 0 ps h.end h.next (omega arith) h.turn h.ends)
