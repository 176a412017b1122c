-- What is written of a set is told by its text.
use Rattle.std.proofs.Common.{◌≡◌, ℕ, ◌+◌, Bool, true, false, ◌||◌, cond, List, [], ◌∷◌, ◌++◌, length, map, None, refl, sym, ap, subst, ◌∙◌}
use Rattle.std.specs.Prelude.{filter, if◌then◌else◌}
use Rattle.std.specs.List.{flat_map, list_any, range_with_len, zip}
use Rattle.std.proofs.lemmas.List.Concat.{flat_map-cons}
use Rattle.hunk_core.specs.declared.Form.{Form}
use Rattle.hunk_core.specs.PlainHunk.{bytes_at}
use Rattle.hunk_core.proofs.ReadSteps.{bind_ok, ok_is}
use Rattle.unified_form.specs.declared.hunk_scan.OldRange.{OldRange}
use Rattle.read_file_patch.specs.declared.FilePatch.{FilePatch}
use Rattle.read_file_patch.specs.PlainPatch.{PlainHeader, PlainPatch, change_of, header_of, patch_of, row_count}
use Rattle.read_patch_text.specs.Patches.{patches_of}
use Rattle.read_patch_text.specs.Digests.{AreDigests, IsDigest, digest, digested_all, ranges_in}
use Rattle.read_patch_text.specs.Outlines.{outlined_all}
use Rattle.read_patch_text.specs.Regions.{Region, region_of, regions_of}
use Rattle.patch_set.specs.Asked.{ways_of}
use Rattle.patch_set.specs.SetView.{SetView, IsRead, plain_patches}
use Rattle.filter_choice.specs.Digested.{DigestView, IsDigestOf, digested}
use Rattle.filter_choice.specs.Outlined.{OutlineView, outlined}
use Rattle.patch_set.specs.Spans.{IsPlaced, ArePlaced}
use Rattle.patch_set.proofs.InBytes.{cut-bytes}
use Rattle.patch_filters.specs.Digested.{digest_if_taken, digest_written, filtered_digest, olds_by}
use Rattle.patch_filters.specs.Filtered.{chosen, filtered, pieces, region, text_if, written, written_bare, written_if_taken, is_taken_of}
use Rattle.patch_filters.specs.Told.{ends_of, text_behind, told, told_if, told_of}
use Rattle.patch_filters.specs.Grepped.{asked_text, found_text, found_told, grepped, hits_of, is_found, tells, told_found}
use Rattle.filter_choice.specs.Kept.{is_kept, is_taken, kept}
use Rattle.line_list.specs.Completed.{completed}
use Rattle.patch_filters.specs.HunkLines.{first_line, hunk_lines, lines_from}
use Rattle.patch_filters.specs.Listed.{asks_hunks, is_listed, lines_if_selected, list_line, list_lines, listed, listed_whole, name_line}
use Rattle.filter_choice.specs.OldLines.{old_of_each}
use Rattle.filter_choice.specs.Selected.{numbered}
use Rattle.patch_filters.proofs.Digesting.{filtered-digest-is, olds-same}
use Rattle.patch_filters.proofs.Outlined.{outlines-listed}
use Rattle.filter_choice.proofs.Rows.{flat-if}
use Rattle.patch_filters.proofs.Rows.{filtered-is, listed-whole-is}
use Rattle.format_convert.specs.Taken.{left_patches}
use Rattle.format_convert.specs.Converted.{converted, written_if, written_of as form_written}
use Rattle.format_convert.specs.Refusals.{refusal as form_refusal}
use Rattle.format_convert.proofs.RowLemmas.{converted-is}
use Rattle.cli_tool_words.specs.PlainJobs.{PlainFilterJob, PlainGrepJob, PlainListJob}
use Rattle.cli_tool_words.specs.declared.jobs.GrepOut.{GrepOut}
use Rattle.cli_tool_words.specs.declared.jobs.GrepOut.TheVariants.{Names, Hunks, Files}
use Rattle.filter_whole_text.specs.Opened.{IsOutlineOf}
use Rattle.cli_filter.specs.Converting.{converted_in, form_refused, spot_converted}
use Rattle.filter_whole_text.specs.Texts.{defaults, read_patches, patches_in, regions_in, Spot, spots_in}
use Rattle.cli_filter.specs.Texts.{listed_in, spot_lines, spot_listed, spot_written, is_spot_taken, filtered_in, spot_asked, spot_found, spot_told, grepped_in, told_at, told_in}
use Rattle.filter_whole_text.proofs.ByText.{spot, patches-by, spots-by}

-- ---- a list

empty-unasked : (hunks empty : Bool) → (hunks || empty) ≡ false → empty ≡ false
empty-unasked true empty none = cc
empty-unasked false empty none = none

pub listed-by : (j : PlainListJob) (text : List ℕ) (v : OutlineView) → asks_hunks j.shown ≡ false → IsOutlineOf j.select.skip_binary text v → listed j (outlined v) ≡ listed_in j text
unfolding listed_in
listed-by j text v unasked read =
    let ways = ways_of (defaults j.select.skip_binary) in
    let a = bind_ok (patches_of ways v.text) outlined_all (outlined v) read.patches in
    ap (listed j) (sym (ok_is _ _ a.2))
    ∙ outlines-listed j (empty-unasked j.shown.hunks j.shown.empty_absent unasked) a.0
    ∙ ap (listed j) (sym (ap read_patches (ap (patches_of ways) (sym read.text) ∙ a.1)))
    ∙ sym (ap (λ b. if b then flat_map (spot_listed j (completed text)) (filter (λ n. is_listed j n.1.1) (numbered (spots_in j.select.skip_binary text))) else listed j (patches_in j.select.skip_binary text)) unasked)

-- ---- lists side by side

module _ (text : List ℕ) (f : ℕ × FilePatch → List ℕ) (g : ℕ × Spot → List ℕ) (same : (n start before : ℕ) (p : FilePatch) → IsPlaced text start before p → f (n, p) ≡ g (n, spot text p)) where
  numbered-same : (k start before : ℕ) (ps : List FilePatch) → ArePlaced text start before ps
      → flat_map f (zip (range_with_len k (length ps)) ps) ≡ flat_map g (zip (range_with_len k (length (map (spot text) ps))) (map (spot text) ps))
  numbered-same k start before [] at = refl
  numbered-same k start before (p ∷ ps) at =
      flat_map-cons f (k, p) (zip (range_with_len (k + 1) (length ps)) ps)
      ∙ ap (λ (t : List ℕ). t ++ flat_map f (zip (range_with_len (k + 1) (length ps)) ps)) (same k start before p at.0)
      ∙ ap (λ (t : List ℕ). g (k, spot text p) ++ t) (numbered-same (k + 1) p.span.end (before + row_count p.change) ps at.1)
      ∙ sym (flat_map-cons g (k, spot text p) (zip (range_with_len (k + 1) (length (map (spot text) ps))) (map (spot text) ps)))

module _ (text : List ℕ) (f : FilePatch → List ℕ) (g : Spot → List ℕ) (same : (start before : ℕ) (p : FilePatch) → IsPlaced text start before p → f p ≡ g (spot text p)) where
  all-same : (start before : ℕ) (ps : List FilePatch) → ArePlaced text start before ps → flat_map f ps ≡ flat_map g (map (spot text) ps)
  all-same start before [] at = refl
  all-same start before (p ∷ ps) at =
      flat_map-cons f p ps
      ∙ ap (λ (t : List ℕ). t ++ flat_map f ps) (same start before p at.0)
      ∙ ap (λ (t : List ℕ). g (spot text p) ++ t) (all-same p.span.end (before + row_count p.change) ps at.1)
      ∙ sym (flat_map-cons g (spot text p) (map (spot text) ps))

first-same : (p q : PlainPatch) (ps qs : List PlainPatch) → p ∷ ps ≡ q ∷ qs → p ≡ q
first-same p q ps qs e = cc

rest-same : (p q : PlainPatch) (ps qs : List PlainPatch) → p ∷ ps ≡ q ∷ qs → ps ≡ qs
rest-same p q ps qs e = cc

-- ---- one file patch

module _ (text : List ℕ) (start before : ℕ) (p : FilePatch) (at : IsPlaced text start before p) where
  written-same : (j : PlainFilterJob) → written j text p ≡ spot_written j text (spot text p)
  written-same j = ap (λ (ts : List (List ℕ)). if p.header.bare then written_bare j text p else (if list_any (λ is. is) (kept j (change_of text p.change)) then region text p ++ chosen (kept j (change_of text p.change)) ts else []))
      (cut-bytes text p.header p.hunk_spans.items p.span.end at.cut)

  lines-same : (label : List ℕ) → hunk_lines label text p ≡ spot_lines label text (spot text p)
  lines-same label = ap (lines_from label (first_line p.header.form p.header.opening) 1) (cut-bytes text p.header p.hunk_spans.items p.span.end at.cut)

  list-same : (j : PlainListJob) (number : ℕ) → list_lines j text (number, p) ≡ spot_listed j text (number, spot text p)
  list-same j number = ap (λ (ls : List (List ℕ)). list_line j (number, patch_of text p) ++ text_if (j.shown.hunks, flat_map (λ line. line) ls)) (lines-same j.shown.hunk_label)

  told-same : (j : PlainFilterJob) (n : ℕ) → told_if j text (n, p) ≡ spot_told j text (n, spot text p)
  told-same j n = ap (λ (ts : List (List ℕ)). told_of j n (patch_of text p) (region text p) ts (bytes_at text p.span)) (cut-bytes text p.header p.hunk_spans.items p.span.end at.cut)

  found-same : (hit : List ℕ → Bool) (out : GrepOut) (j : PlainGrepJob) → found_text hit out j text p ≡ spot_found hit out j text (spot text p)
  found-same hit Names j = ap (λ (ls : List (List ℕ)). name_line j.shown None (patch_of text p) ++ text_if (j.shown.hunks, chosen (hits_of j.searched hit (change_of text p.change)) ls)) (lines-same j.shown.hunk_label)
  found-same hit Hunks j = ap (λ (ts : List (List ℕ)). region text p ++ chosen (hits_of j.searched hit (change_of text p.change)) ts) (cut-bytes text p.header p.hunk_spans.items p.span.end at.cut)
  found-same hit Files j = refl

  asked-same : (hit : List ℕ → Bool) (j : PlainGrepJob) → asked_text hit j text p ≡ spot_asked hit j text (spot text p)
  asked-same hit j =
      ap (λ (t : List ℕ). if tells j then found_told hit j text p else t) (found-same hit j.output j)
      ∙ ap (λ (ts : List (List ℕ)). if tells j then told_found j (hits_of j.searched hit (change_of text p.change)) (patch_of text p) (region text p) ts else spot_found hit j.output j text (spot text p))
      (cut-bytes text p.header p.hunk_spans.items p.span.end at.cut)

-- ---- what each filter writes of it

pub whole-by : (j : PlainListJob) (text : List ℕ) (v : SetView) → asks_hunks j.shown ≡ true → IsRead (defaults j.select.skip_binary) text v → listed_whole j v ≡ listed_in j text
unfolding listed_in
whole-by j text v asked read =
    listed-whole-is j v
    ∙ numbered-same v.text (lines_if_selected j v.text) (λ n. cond (is_listed j n.1.1) (spot_listed j v.text n) [])
    (λ n start before p at. ap (λ (t : List ℕ). cond (is_listed j (patch_of v.text p)) t []) (list-same v.text start before p at j n)) 1 0 0 v.patches read.spans
    ∙ sym (flat-if (λ (n : ℕ × Spot). is_listed j n.1.1) (spot_listed j v.text) (numbered (map (spot v.text) v.patches)))
    ∙ ap (λ (ss : List Spot). flat_map (spot_listed j v.text) (filter (λ n. is_listed j n.1.1) (numbered ss))) (sym (spots-by j.select.skip_binary text v read))
    ∙ ap (λ (t : List ℕ). flat_map (spot_listed j t) (filter (λ n. is_listed j n.1.1) (numbered (spots_in j.select.skip_binary text)))) read.text
    ∙ sym (ap (λ b. if b then flat_map (spot_listed j (completed text)) (filter (λ n. is_listed j n.1.1) (numbered (spots_in j.select.skip_binary text))) else listed j (patches_in j.select.skip_binary text)) asked)

pub filtered-by : (j : PlainFilterJob) (text : List ℕ) (v : SetView) → IsRead (defaults j.select.skip_binary) text v → filtered j v ≡ filtered_in j text
unfolding filtered_in
filtered-by j text v read =
    filtered-is j v
    ∙ numbered-same v.text (written_if_taken j v.text) (λ n. cond (is_spot_taken j n) (spot_written j v.text n.1) [])
    (λ n start before p at. ap (λ (t : List ℕ). cond (is_taken_of j v.text (n, p)) t []) (written-same v.text start before p at j)) 1 0 0 v.patches read.spans
    ∙ sym (flat-if (is_spot_taken j) (λ n. spot_written j v.text n.1) (numbered (map (spot v.text) v.patches)))
    ∙ ap (λ (ss : List Spot). flat_map (λ n. spot_written j v.text n.1) (filter (is_spot_taken j) (numbered ss))) (sym (spots-by j.select.skip_binary text v read))
    ∙ ap (λ (t : List ℕ). flat_map (λ n. spot_written j t n.1) (filter (is_spot_taken j) (numbered (spots_in j.select.skip_binary text)))) read.text

ends-same : (text : List ℕ) (ps : List FilePatch) → ends_of ps ≡ map (λ s. s.0.end) (map (spot text) ps)
ends-same text [] = refl
ends-same text (p ∷ ps) = ap (λ (es : List ℕ). p.span.end ∷ es) (ends-same text ps)

pub told-by : (j : PlainFilterJob) (text : List ℕ) (v : SetView) → IsRead (defaults j.select.skip_binary) text v → told j v ≡ told_in j text
unfolding told told_in
told-by j text v read =
    let spots = map (spot v.text) v.patches in
    ap (λ (t : List ℕ). t ++ text_behind j.verbose v.text (ends_of v.patches))
    (numbered-same v.text (told_if j v.text) (spot_told j v.text) (λ n start before p at. told-same v.text start before p at j n) 0 0 0 v.patches read.spans)
    ∙ ap (λ (es : List ℕ). flat_map (spot_told j v.text) (zip (range_with_len 0 (length spots)) spots) ++ text_behind j.verbose v.text es) (ends-same v.text v.patches)
    ∙ ap (told_at j v.text) (sym (spots-by j.select.skip_binary text v read))
    ∙ ap (λ (t : List ℕ). told_at j t (spots_in j.select.skip_binary text)) read.text

-- the same of a digest
module _ (j : PlainFilterJob) (text : List ℕ) where
  -- what is written of a file patch, by the old lines of its hunks and their texts
  abbrev written_of : FilePatch → List (List ℕ) → List (List ℕ) → List ℕ
  written_of q each ts = if q.header.bare then written_bare j text q else (if list_any (λ is. is) (map (λ h. is_kept j h.0 h.1) (numbered each)) then region text q ++ chosen (map (λ h. is_kept j h.0 h.1) (numbered each)) ts else [])

  digest-row : (n : ℕ) (q : FilePatch) (p : PlainPatch) → digest p ≡ patch_of text q → IsDigest text q (ranges_in p) → digest_if_taken j text (n, (q, ranges_in p)) ≡ cond (is_spot_taken j (n, (region_of q, p))) (spot_written j text (region_of q, p)) []
  digest-row n q p same is =
      let head : header_of text q.header ≡ p.header = ap (λ (x : PlainPatch). x.header) (sym same) in
      let olds : olds_by (change_of text q.change) (ranges_in p) ≡ old_of_each p.change = ap (λ (x : PlainPatch). olds_by x.change (ranges_in p)) (sym same) ∙ olds-same p.change in
      ap (λ (h : PlainHeader). cond (is_taken j n h) (digest_written j text q (ranges_in p)) []) head
      ∙ ap (λ (each : List (List ℕ)). cond (is_taken j n p.header) (written_of q each (pieces text q)) []) olds
      ∙ ap (λ (ts : List (List ℕ)). cond (is_taken j n p.header) (written_of q (old_of_each p.change) ts) []) (cut-bytes text q.header q.hunk_spans.items q.span.end is.cut)

  digest-rows : (k : ℕ) (qs : List FilePatch) (ps : List PlainPatch) → map digest ps ≡ map (patch_of text) qs → AreDigests text qs (map ranges_in ps)
      → flat_map (digest_if_taken j text) (zip (range_with_len k (length (zip qs (map ranges_in ps)))) (zip qs (map ranges_in ps)))
      ≡ flat_map (λ n. cond (is_spot_taken j n) (spot_written j text n.1) []) (zip (range_with_len k (length (zip (map region_of qs) ps))) (zip (map region_of qs) ps))
  digest-rows k [] [] same are = refl
  digest-rows k [] (p ∷ ps) same are = absurd are
  digest-rows k (q ∷ qs) [] same are = absurd are
  digest-rows k (q ∷ qs) (p ∷ ps) same are =
      let first : digest p ≡ patch_of text q = first-same (digest p) (patch_of text q) (map digest ps) (map (patch_of text) qs) same in
      let others : map digest ps ≡ map (patch_of text) qs = rest-same (digest p) (patch_of text q) (map digest ps) (map (patch_of text) qs) same in
      let olds = zip qs (map ranges_in ps) in
      let spots = zip (map region_of qs) ps in
      let f = digest_if_taken j text in
      let g : ℕ × Spot → List ℕ = λ n. cond (is_spot_taken j n) (spot_written j text n.1) [] in
      flat_map-cons f (k, (q, ranges_in p)) (zip (range_with_len (k + 1) (length olds)) olds)
      ∙ ap (λ (t : List ℕ). t ++ flat_map f (zip (range_with_len (k + 1) (length olds)) olds)) (digest-row k q p first are.0)
      ∙ ap (λ (t : List ℕ). g (k, (region_of q, p)) ++ t) (digest-rows (k + 1) qs ps others are.1)
      ∙ sym (flat_map-cons g (k, (region_of q, p)) (zip (range_with_len (k + 1) (length spots)) spots))

pub digested-by : (j : PlainFilterJob) (text : List ℕ) (v : DigestView) → IsDigestOf (defaults j.select.skip_binary) text v → filtered_digest j v ≡ filtered_in j text
unfolding filtered_in
digested-by j text v read =
    let skip = j.select.skip_binary in
    let ways = ways_of (defaults skip) in
    let a = bind_ok (patches_of ways v.text) digested_all (digested v, v.olds) read.patches in
    let ps = a.0 in
    let both : (map digest ps, map ranges_in ps) ≡ (digested v, v.olds) = ok_is _ _ a.2 in
    let plain : map digest ps ≡ map (patch_of v.text) v.patches = ap (λ (x : List PlainPatch × List (List OldRange)). x.0) both in
    let olds : map ranges_in ps ≡ v.olds = ap (λ (x : List PlainPatch × List (List OldRange)). x.1) both in
    let are : AreDigests v.text v.patches (map ranges_in ps) = subst (AreDigests v.text v.patches) (sym olds) read.are in
    let there : patches_in skip text ≡ ps = ap read_patches (ap (patches_of ways) (sym read.text) ∙ a.1) in
    let lie : regions_in skip text ≡ map region_of v.patches = ap (regions_of ways) (sym read.text) ∙ sym read.regions in
    let spots : spots_in skip text ≡ zip (map region_of v.patches) ps = ap (λ (rs : List Region). zip rs (patches_in skip text)) lie ∙ ap (zip (map region_of v.patches)) there in
    filtered-digest-is j v
    ∙ ap (λ (os : List (List OldRange)). flat_map (digest_if_taken j v.text) (numbered (zip v.patches os))) (sym olds)
    ∙ digest-rows j v.text 1 v.patches ps plain are
    ∙ sym (flat-if (is_spot_taken j) (λ n. spot_written j v.text n.1) (numbered (zip (map region_of v.patches) ps)))
    ∙ ap (λ (ss : List Spot). flat_map (λ n. spot_written j v.text n.1) (filter (is_spot_taken j) (numbered ss))) (sym spots)
    ∙ ap (λ (t : List ℕ). flat_map (λ n. spot_written j t n.1) (filter (is_spot_taken j) (numbered (spots_in skip text)))) read.text

pub grepped-by : (hit : List ℕ → Bool) (j : PlainGrepJob) (text : List ℕ) (v : SetView) → IsRead (defaults j.select.skip_binary) text v → grepped hit j v ≡ grepped_in hit j text
unfolding grepped grepped_in
grepped-by hit j text v read =
    flat-if (λ p. is_found hit j (patch_of v.text p)) (asked_text hit j v.text) v.patches
    ∙ all-same v.text (λ p. cond (is_found hit j (patch_of v.text p)) (asked_text hit j v.text p) []) (λ s. cond (is_found hit j s.1) (spot_asked hit j v.text s) [])
    (λ start before p at. ap (λ (t : List ℕ). cond (is_found hit j (patch_of v.text p)) t []) (asked-same v.text start before p at hit j)) 0 0 v.patches read.spans
    ∙ sym (flat-if (λ (s : Spot). is_found hit j s.1) (spot_asked hit j v.text) (map (spot v.text) v.patches))
    ∙ ap (λ (ss : List Spot). flat_map (spot_asked hit j v.text) (filter (λ s. is_found hit j s.1) ss)) (sym (spots-by j.select.skip_binary text v read))
    ∙ ap (λ (t : List ℕ). flat_map (spot_asked hit j t) (filter (λ s. is_found hit j s.1) (spots_in j.select.skip_binary text))) read.text

pub form-by : (form : Form) (j : PlainFilterJob) (text : List ℕ) (v : SetView) → IsRead (defaults j.select.skip_binary) text v → form_refusal form (left_patches j (plain_patches v)) ≡ form_refused form j text
form-by form j text v read = ap (λ (ps : List PlainPatch). form_refusal form (left_patches j ps)) (sym (patches-by j.select.skip_binary text v read))

pub converted-by : (form : Form) (j : PlainFilterJob) (text : List ℕ) (v : SetView) → IsRead (defaults j.select.skip_binary) text v → converted form j v ≡ converted_in form j text
unfolding converted_in
converted-by form j text v read =
    converted-is form j v
    ∙ numbered-same v.text (written_if form j v.text) (spot_converted form j v.text)
    (λ n start before p at. ap (λ (ts : List (List ℕ)). form_written form j v.text n p.header ts (patch_of v.text p)) (cut-bytes v.text p.header p.hunk_spans.items p.span.end at.cut)) 0 0 0 v.patches read.spans
    ∙ ap (λ (ss : List Spot). flat_map (spot_converted form j v.text) (zip (range_with_len 0 (length ss)) ss)) (sym (spots-by j.select.skip_binary text v read))
    ∙ ap (λ (t : List ℕ). flat_map (spot_converted form j t) (zip (range_with_len 0 (length (spots_in j.select.skip_binary text))) (spots_in j.select.skip_binary text))) read.text
