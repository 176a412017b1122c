-- The file patches of a text, or of a set, stand one behind the other.
use Rattle.std.proofs.Common.{◌≡◌, ◌+◌, ◌<◌, ◌≤◌, ℕ, zero, suc, Bool, true, false, cond, List, [], ◌∷◌, ◌++◌, map, length, get_or, drop, None, Some, Result, Ok, Err, refl, sym, ap, subst, ◌∙◌, arith}
use Rattle.std.specs.List.{AllByRecursion, list_any, zip}
use Rattle.line_list.specs.Lines.{lines, IsLine}
use Rattle.line_list.specs.Completed.{completed, IsComplete}
use Rattle.line_list.proofs.JoinLemmas.{completed-complete, complete-whole}
use Rattle.hunk_core.specs.PlainHunk.{bytes_at}
use Rattle.hunk_core.specs.Reading.{Fault, Ahead, ahead}
use Rattle.patch_header.specs.Steps.{IsEnd}
use Rattle.patch_header.specs.declared.search.HeaderStep.TheVariants.{Found, End}
use Rattle.patch_header.specs.declared.read_options.ReadOptions.{ReadOptions}
use Rattle.patch_header.proofs.StepLemmas.{one-step}
use Rattle.read_file_patch.specs.declared.FilePatch.{FilePatch}
use Rattle.read_file_patch.specs.PlainPatch.{PlainHeader, PlainChange, PlainPatch, header_of, change_of, patch_of, row_count}
use Rattle.patch_options.specs.PlainJob.{PlainOptions}
use Rattle.read_patch_text.specs.Patches.{place_before, patches_of}
use Rattle.read_patch_text.specs.Regions as regions
use Rattle.read_patch_text.specs.Regions.{Region, region_up_to, region_with, region_by, next_region, with_later, regions_at, regions_of}
use Rattle.read_patch_text.specs.Texts.{StandsFirst, Stand}
use Rattle.read_patch_text.proofs.TextLaws.{behind-again}
use Rattle.read_patch_text.proofs.TextLoops.{place-back}
use Rattle.patch_set.specs.Asked.{ways_of}
use Rattle.patch_set.specs.SetView.{SetView, IsRead}
use Rattle.patch_set.specs.Spans.{IsPlaced, ArePlaced}
use Rattle.patch_set.proofs.InBytes.{cut-bytes}
use Rattle.cli_tool_words.specs.PlainJobs.{PlainFilterJob}
use Rattle.patch_filters.specs.Filtered.{filtered, written, written_bare, written_hunks, region, pieces, chosen, is_taken_of, asks_no_hunk}
use Rattle.filter_choice.specs.Kept.{kept}
use Rattle.filter_whole_text.specs.Texts.{defaults, Spot, read_patches, regions_in, spots_in, front_of, pieces_of, all_of}
use Rattle.cli_filter.specs.Texts.{spot_written, spot_hunks, spot_bare, is_spot_taken, filtered_in}
use Rattle.law_reading.specs.Unnumbered.{unnumbered}
use Rattle.law_reading.specs.Joins.{read_unnumbered}
use Rattle.law_reading.proofs.Reading.{goes-of, text-found}
use Rattle.read_patch_text.proofs.RegionLaws.{regions-step, regions-zero}
use Rattle.law_filters.specs.LeftPatches.{is_some_kept, kept_patch, left_patches, spot_left, left_in}
use Rattle.law_filters.specs.CleanJoins.{AreCleanJoins, AreCleanJoinsIn}
use Rattle.law_filters.proofs.Parts.{Known, known}
use Rattle.law_filters.proofs.Walking.{Chain, chain-reads}

-- ---- regions
regions-none : (most : ℕ) (ways : ReadOptions) (text : List ℕ) (at number : ℕ) → IsEnd ways text at → regions_at most ways text at number ≡ []
regions-none zero ways text at number h = regions-zero ways text at number
regions-none (suc most) ways text at number h =
    let none : next_region ways text at number ≡ None = ap (region_by text at) (sym (one-step ways text at number End h)) in
    regions-step most ways text at number ∙ ap (with_later (λ p. regions_at most ways text (place_before text p.rest) p.number)) none

-- a file patch that stands first lies in the first region
regions-next : (most : ℕ) (ways : ReadOptions) (text : List ℕ) (at number : ℕ) (p : PlainPatch) (end next : ℕ) (s : StandsFirst ways text at number p end next) → regions_at (suc most) ways text at number ≡ region_up_to text at s.header end ∷ regions_at most ways text end next
regions-next most ways text at number p end next s =
    let behind : Ahead = ahead next (lines (drop end text)) in
    let place : place_before text (lines (drop end text)) ≡ end = place-back text end s.high in
    let one : next_region ways text at number ≡ Some (region_up_to text at s.header (place_before text (lines (drop end text))), behind) =
    ap (region_by text at) (sym (one-step ways text at number (Found s.header) s.opens))
    ∙ ap (region_with text at s.header) (behind-again text s.header p.change end next s.goes) in
    regions-step most ways text at number
    ∙ ap (with_later (λ q. regions_at most ways text (place_before text q.rest) q.number)) one
    ∙ ap (λ k. region_up_to text at s.header k ∷ regions_at most ways text k next) place

-- ---- one file patch

-- its opening lies in front of its end
opens-before : (ways : ReadOptions) (text : List ℕ) (at number : ℕ) (p : PlainPatch) (end next : ℕ) (s : StandsFirst ways text at number p end next) → s.header.at < end
opens-before ways text at number p end next s =
    let high : at ≤ length text = (let far : at < end = s.some in let top : end ≤ length text = s.high in omega arith) in
    let x : PlainChange × Ahead = (p.change, ahead next (lines (drop end text))) in
    let g = (goes-of ways text at number s.header x high s.opens (behind-again text s.header p.change end next s.goes)).1 in
    omega (arith, g.some, g.end, place-back text end s.high)

module _ (j : PlainFilterJob) (ways : ReadOptions) (text : List ℕ) where
  abbrev SpotKnown : ℕ → ℕ → Spot → Type 0
  SpotKnown start end s = Known ways text start end (spot_left j s) (spot_written j text s) (kept_patch j s.1)

  abbrev made : PlainHeader → PlainChange → PlainPatch
  made h c = record { header = h; change = c }

  spot-known : (start number : ℕ) (p : PlainPatch) (end next : ℕ) (s : StandsFirst ways text start number p end next) → AllByRecursion IsLine (lines (drop start text)) → SpotKnown start end (region_up_to text start s.header end, p)
  spot-known start number p end next s all =
      let same : made (header_of text s.header) p.change ≡ p = ap (λ h. made h p.change) (sym s.says) in
      subst (λ q. SpotKnown start end (region_up_to text start s.header end, q)) same
      (known j ways text start number s.header p.change end next s.opens s.goes (opens-before ways text start number p end next s) s.high all)

  -- ---- of a text

  abbrev SpotChain : ℕ → List Spot → Type 0
  SpotChain = Chain Spot ways text (spot_left j) (λ s. s.0.header.bare) (spot_written j text) (λ s. kept_patch j s.1) (is_spot_taken j)

  spots-chain : (most : ℕ) (ps : List PlainPatch) (at number end next : ℕ) → length text ≤ at + most → AllByRecursion IsLine (lines (drop at text)) → Stand ways text at number ps end next → IsEnd ways text end → SpotChain at (zip (regions_at most ways text at number) ps)
  spots-chain most [] at number end next enough all h ends =
      let none : regions_at most ways text at number ≡ [] = regions-none most ways text at number (subst (IsEnd ways text) (sym h.0) ends) in
      subst (λ (rs : List Region). SpotChain at (zip rs [])) (sym none) tt
  spots-chain zero (p ∷ ps) at number end next enough all h ends = absurd (let s = h.2 in let far : at < h.0 = s.some in let top : h.0 ≤ length text = s.high in omega arith)
  spots-chain (suc most) (p ∷ ps) at number end next enough all h ends =
      let s = h.2 in
      let k = spot-known at number p h.0 h.1 s all in
      let more = spots-chain most ps h.0 h.1 end next (let far : at < h.0 = s.some in omega arith) k.are_lines h.3 ends in
      subst (λ (rs : List Region). SpotChain at (zip rs (p ∷ ps))) (sym (regions-next most ways text at number p h.0 h.1 s))
      (h.0, k, ap (λ (x : PlainHeader). x.bare) (sym s.says), more)

  -- ---- of a set

  abbrev SetKnown : ℕ → ℕ → FilePatch → Type 0
  SetKnown start end p = Known ways text start end (is_some_kept j p.header.bare (change_of text p.change)) (written j text p) (kept_patch j (patch_of text p))

  abbrev SetChain : ℕ → List FilePatch → Type 0
  SetChain = Chain FilePatch ways text (λ p. is_some_kept j p.header.bare (change_of text p.change)) (λ p. p.header.bare) (written j text) (λ p. kept_patch j (patch_of text p)) (is_taken_of j text)

  written-same : (start before : ℕ) (p : FilePatch) → IsPlaced text start before p → written j text p ≡ spot_written j text (regions.region_of p, patch_of text p)
  written-same start before p at = ap (λ (ts : List (List ℕ)). cond p.header.bare (written_bare j text p) (cond (list_any (λ is. is) (kept j (change_of text p.change))) (region text p ++ chosen (kept j (change_of text p.change)) ts) []))
      (cut-bytes text p.header p.hunk_spans.items p.span.end at.cut)

  heads : (x y : Region) (xs ys : List Region) → x ∷ xs ≡ y ∷ ys → (x ≡ y) × (xs ≡ ys)
  heads x y xs ys e = (cc, cc)

  set-chain : (most : ℕ) (ps : List FilePatch) (at number before end next : ℕ) → AllByRecursion IsLine (lines (drop at text)) → Stand ways text at number (map (patch_of text) ps) end next → regions_at most ways text at number ≡ map regions.region_of ps → ArePlaced text at before ps → SetChain at ps
  set-chain most [] at number before end next all h rs placed = tt
  set-chain zero (p ∷ ps) at number before end next all h rs placed = absurd (let none : [] ≡ regions.region_of p ∷ map regions.region_of ps = sym (regions-zero ways text at number) ∙ rs in cc)
  set-chain (suc most) (p ∷ ps) at number before end next all h rs placed =
      let s = h.2 in
      let both = heads (region_up_to text at s.header h.0) (regions.region_of p) (regions_at most ways text h.0 h.1) (map regions.region_of ps) (sym (regions-next most ways text at number (patch_of text p) h.0 h.1 s) ∙ rs) in
      let spot : SpotKnown at h.0 (regions.region_of p, patch_of text p) = subst (λ (r : Region). SpotKnown at h.0 (r, patch_of text p)) both.0 (spot-known at number (patch_of text p) h.0 h.1 s all) in
      let one : SetKnown at h.0 p = subst (λ (bs : List ℕ). Known ways text at h.0 (is_some_kept j p.header.bare (change_of text p.change)) bs (kept_patch j (patch_of text p))) (sym (written-same at before p placed.0)) spot in
      let end_is : h.0 ≡ p.span.end = ap (λ (r : Region). r.end) both.0 in
      let more = set-chain most ps h.0 h.1 (before + row_count p.change) end next spot.are_lines h.3 both.1 (subst (λ k. ArePlaced text k (before + row_count p.change) ps) (sym end_is) placed.1) in
      (h.0, one, refl, more)

  -- ---- nothing is written of those that aren't left

  none-by : (v : Bool) (bytes : List ℕ) → v ≡ false → cond v bytes [] ≡ []
  none-by v bytes e = rw e refl

  spot-none : (s : Spot) → spot_left j s ≡ false → spot_written j text s ≡ []
  spot-none s h = by s.0.header.bare h
    where
      by : (b : Bool) → is_some_kept j b s.1.change ≡ false → cond b (spot_bare j text s) (spot_hunks j text s) ≡ []
      by true k = none-by (asks_no_hunk j) (all_of text s.0) k
      by false k = none-by (list_any (λ is. is) (kept j s.1.change)) (front_of text s.0 ++ chosen (kept j s.1.change) (pieces_of text s.0)) k

  set-none : (p : FilePatch) → is_some_kept j p.header.bare (change_of text p.change) ≡ false → written j text p ≡ []
  set-none p h = by p.header.bare h
    where
      by : (b : Bool) → is_some_kept j b (change_of text p.change) ≡ false → cond b (written_bare j text p) (written_hunks j text p) ≡ []
      by true k = none-by (asks_no_hunk j) (bytes_at text p.span) k
      by false k = none-by (list_any (λ is. is) (kept j (change_of text p.change))) (region text p ++ chosen (kept j (change_of text p.change)) (pieces text p)) k

-- ---- the laws

all-from : {A : Type 0} (P : A → Type 0) (xs : List A) → ((k : ℕ) (d : A) → k < length xs → P (get_or xs k d)) → AllByRecursion P xs
all-from P [] h = tt
all-from P (x ∷ xs) h = (h 0 x (omega arith), all-from P xs (λ k d low. h (suc k) d (omega (arith, low))))

whole-lines : (text : List ℕ) → IsComplete text → AllByRecursion IsLine (lines text)
whole-lines text c = all-from IsLine (lines text) (complete-whole text c)

pub told : (text : List ℕ) (j : PlainFilterJob) → AreCleanJoinsIn j text → read_unnumbered (ways_of (defaults j.select.skip_binary)) (filtered_in j text) ≡ Ok (map unnumbered (left_in j text))
unfolding filtered_in
told text j clean =
    chain-reads Spot (ways_of (defaults j.select.skip_binary)) (completed text) (spot_left j) (λ s. s.0.header.bare) (spot_written j (completed text)) (λ s. kept_patch j s.1) (is_spot_taken j) (spots_in j.select.skip_binary text) chain (spot-none j (ways_of (defaults j.select.skip_binary)) (completed text)) clean
  where
    by : (o : Result (List PlainPatch) Fault) → patches_of (ways_of (defaults j.select.skip_binary)) (completed text) ≡ o → SpotChain j (ways_of (defaults j.select.skip_binary)) (completed text) 0 (zip (regions_in j.select.skip_binary text) (read_patches o))
    by (Ok ps) e =
        let h = text-found (ways_of (defaults j.select.skip_binary)) (completed text) ps e in
        spots-chain j (ways_of (defaults j.select.skip_binary)) (completed text) (length (completed text)) ps 0 1 h.end h.next (omega arith) (whole-lines (completed text) (completed-complete text)) h.stand h.ends
    by (Err f) e = none (regions_in j.select.skip_binary text)
      where
        none : (rs : List Region) → SpotChain j (ways_of (defaults j.select.skip_binary)) (completed text) 0 (zip rs [])
        none [] = tt
        none (r ∷ rs) = tt

    chain : SpotChain j (ways_of (defaults j.select.skip_binary)) (completed text) 0 (spots_in j.select.skip_binary text)
    chain = by (patches_of (ways_of (defaults j.select.skip_binary)) (completed text)) refl

pub of-set : (o : PlainOptions) (given : List ℕ) (v : SetView) (j : PlainFilterJob) → IsRead o given v → AreCleanJoins j v → read_unnumbered v.ways (filtered j v) ≡ Ok (map unnumbered (left_patches j v))
unfolding filtered
of-set o given v j read clean =
    let complete : IsComplete v.text = subst IsComplete (sym read.text) (completed-complete given) in
    let h = text-found (ways_of o) v.text (map (patch_of v.text) v.patches) read.patches in
    let chain : SetChain j (ways_of o) v.text 0 v.patches = set-chain j (ways_of o) v.text (length v.text) v.patches 0 1 0 h.end h.next (whole-lines v.text complete) h.stand (sym read.regions) read.spans in
    ap (λ ways. read_unnumbered ways (filtered j v)) read.ways
    ∙ chain-reads FilePatch (ways_of o) v.text (λ p. is_some_kept j p.header.bare (change_of v.text p.change)) (λ p. p.header.bare) (written j v.text) (λ p. kept_patch j (patch_of v.text p)) (is_taken_of j v.text) v.patches chain (set-none j (ways_of o) v.text) clean
