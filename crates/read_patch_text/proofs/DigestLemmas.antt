-- A change without its hunks, their pieces and old lines, and what reading gives of it.
use Rattle.std.proofs.Common.{◌≡◌, ℕ, zero, suc, ◌+◌, ◌≤◌, ◌<◌, true, false, List, [], ◌∷◌, ◌++◌, length, get_or, take, drop, map, Some, Ok, refl, sym, ap, ◌∙◌, arith}
use Rattle.std.proofs.lemmas.List.{length-map, take_all}
use Rattle.line_list.specs.Lines.{lines}
use Rattle.hunk_core.specs.declared.fault.FormFault.{FormFault}
use Rattle.hunk_core.specs.declared.fault.FormFault.TheVariants as errors
use Rattle.hunk_core.specs.declared.Form.TheVariants.{Unified}
use Rattle.hunk_core.specs.declared.Hunk.{Hunk}
use Rattle.hunk_core.specs.PlainHunk.{PlainHunk, hunk_of}
use Rattle.hunk_core.specs.Pieces.{AreInTurn, AreWhole}
use Rattle.hunk_core.specs.Reading.{Fails, Ahead, ahead}
use Rattle.hunk_core.proofs.ReadSteps.{bind_ok, ok_is}
use Rattle.unified_form.specs.declared.rows.HunkRows.{HunkRows}
use Rattle.unified_form.specs.declared.hunk_scan.OldRange.{OldRange}
use Rattle.unified_form.specs.Grammar.{SpellsHunk}
use Rattle.unified_form.specs.Hunks.{begins_hunk, reading}
use Rattle.unified_form.specs.Skimmed.{AreRows, old_range}
use Rattle.read_header_record.specs.declared.Header.{Header}
use Rattle.patch_header.specs.declared.search.HeaderStep.TheVariants.{Found}
use Rattle.patch_header.specs.declared.read_options.ReadOptions.{ReadOptions}
use Rattle.patch_header.specs.Steps.{IsFirstOpening, next_step}
use Rattle.patch_header.proofs.StepLemmas.{one-step}
use Rattle.read_file_patch.specs.declared.Change.{Change}
use Rattle.read_file_patch.specs.declared.Change.TheVariants.{Hunks, Script}
use Rattle.read_file_patch.specs.PlainPatch.{PlainPatch, hunks, change_of, row_count, AreLawfulHunks, IsLawfulChange}
use Rattle.read_patch_text.specs.Patches.{change_at, change_behind, patch_at, patch_with, place_before}
use Rattle.read_patch_text.specs.Regions.{Region, region_up_to, region_with, region_by, next_region}
use Rattle.read_patch_text.specs.Digests.{AreShort, IsDigested, behind_digested, digested_patch, no_hunks, old_ranges, patch_digested, rows_in}
use Rattle.read_patch_text.specs.declared.digest.Digested.{Digested}
use Rattle.read_patch_text.proofs.ChangeLemmas.{differ, few-lines, no-dot-behind, not-end, spell-count, turn-count}
use Rattle.read_patch_text.proofs.EndsLemmas.{spans-end}
use Rattle.read_patch_text.proofs.TextLoops.{place-back}

-- ---- hunks of the unified form

pub unified-digest-fails : (e : FormFault) (text : List ℕ) (h : Header) → h.bare ≡ false → h.form ≡ Unified → Fails e (reading h.opening (lines (drop h.at text))) → Fails e (behind_digested text h)
unfolding change_at
unified-digest-fails errors.Memory text h some form fails = tt
unified-digest-fails (errors.Malformed line kind) text h some form fails = rw (some, form, fails) refl

pub unified-digests : (text : List ℕ) (h : Header) (hs : List PlainHunk) (p : Ahead) → h.bare ≡ false → h.form ≡ Unified → reading h.opening (lines (drop h.at text)) ≡ Ok (hs, p) → behind_digested text h ≡ Ok (hunks [], map old_range hs, p)
unfolding change_at
unified-digests text h hs p some form read = rw (some, form, read) refl

pub rows-digested : (text : List ℕ) (h : Header) (rows : HunkRows) (r : Digested) → h.bare ≡ false → h.form ≡ Unified → begins_hunk (lines (drop h.at text)) ≡ true → rows.end ≤ length text
    → AreInTurn h.at rows.spans.items rows.end → AreWhole text rows.spans.items → AreRows text h.opening (lines (drop h.at text)) rows
    → IsLawfulChange text r.change → rows_in r.change r.olds.items ≡ length rows.olds.items → r.spans ≡ rows.spans → r.end ≡ rows.end → r.next ≡ rows.next → IsDigested text h r
rows-digested text h rows r some form opens high turn whole read lawful count spans end next =
    let piece = read.piece in
    let within : h.at + length rows.spans.items ≤ rows.end = turn-count h.at rows.spans.items rows.end turn in
    let low : h.at ≤ rows.end = omega (arith, within) in
    let far : h.at < rows.end = omega (arith, low, not-end text begins_hunk h.at rows.end opens piece.ends.0) in
    record {
      lawful = lawful;
      cut = rw (spans, end) (record { turn = λ e. turn; none = λ e. absurd (differ h.bare e some) });
      each = rw spans (spell-count SpellsHunk text 0 rows.spans.items read.hunks read.pieces ∙ sym (count ∙ ap length read.olds ∙ length-map read.hunks old_range));
      ends = rw (spans, end, some, form) (spans-end Unified text h.at 0 rows.spans.items read.hunks rows.end turn far high whole read.pieces);
      some = rw end far;
      high = rw end high;
      numbers = rw (end, next) (omega (arith, piece.counted, few-lines text h.at rows.end piece.own low high piece.parts));
      dots = rw end (no-dot-behind piece.own (lines (drop rows.end text)) (lines (drop h.at text)) piece.parts);
    }

-- ---- what was read whole

each-whole : (text : List ℕ) (c d : Change) (olds : List OldRange) → change_of text d ≡ no_hunks (change_of text c) → olds ≡ old_ranges (change_of text c) → row_count c ≡ rows_in d olds
each-whole text (Hunks hs) (Hunks gs) olds e f = sym (ap length f ∙ length-map (map (hunk_of text) hs.items) old_range ∙ length-map hs.items (hunk_of text))
each-whole text (Script s) (Script t) olds e f = refl
each-whole text (Hunks hs) (Script t) olds e f = absurd cc
each-whole text (Script s) (Hunks gs) olds e f = absurd cc

-- ---- the old lines, one hunk after the other

range-next : (text : List ℕ) (hs : List Hunk) (k : ℕ) (h : Hunk) → k < length hs → h ≡ get_or hs k h → take (suc k) (map old_range (map (hunk_of text) hs)) ≡ take k (map old_range (map (hunk_of text) hs)) ++ old_range (hunk_of text h) ∷ []
range-next text [] k h lt is = absurd (omega (arith, lt))
range-next text (x ∷ hs) zero h lt is = ap (λ (y : Hunk). old_range (hunk_of text y) ∷ []) (sym is)
range-next text (x ∷ hs) (suc k) h lt is = ap (λ (os : List OldRange). old_range (hunk_of text x) ∷ os) (range-next text hs k h (omega (arith, lt)) is)

pub range-more : (text : List ℕ) (hs : List Hunk) (k : ℕ) (h : Hunk) (olds : List OldRange) (old : OldRange) → k < length hs → h ≡ get_or hs k h → old ≡ old_range (hunk_of text h) → olds ≡ take k (map old_range (map (hunk_of text) hs))
    → olds ++ old ∷ [] ≡ take (k + 1) (map old_range (map (hunk_of text) hs))
range-more text hs k h olds old lt is same so_far =
    let n : k + 1 ≡ suc k = omega arith in
    rw (n, so_far, same) (sym (range-next text hs k h lt is))

pub ranges-all : (text : List ℕ) (hs : List Hunk) (k : ℕ) (olds : List OldRange) → length hs ≤ k → olds ≡ take k (map old_range (map (hunk_of text) hs)) → olds ≡ map old_range (map (hunk_of text) hs)
ranges-all text hs k olds enough so_far =
    let long : length (map old_range (map (hunk_of text) hs)) ≡ length hs = length-map (map (hunk_of text) hs) old_range ∙ length-map hs (hunk_of text) in
    so_far ∙ take_all k (map old_range (map (hunk_of text) hs)) (omega (arith, long, enough))

pub no-lawful : (text : List ℕ) (hs : List Hunk) → hs ≡ [] → AreLawfulHunks text hs
no-lawful text hs e = rw e (record { count = omega arith; few = omega arith; lawful = λ k d lt. absurd (omega (arith, lt)) })

pub short-change : (text : List ℕ) (c : Change) → IsLawfulChange text c → AreShort c
short-change text (Hunks hs) lawful = λ i d lt. (lawful.lawful i d lt).few
short-change text (Script s) lawful = tt

pub each-digested : (text : List ℕ) (c d : Change) (olds : List OldRange) (count : ℕ) → count ≡ row_count c → change_of text d ≡ no_hunks (change_of text c) → olds ≡ old_ranges (change_of text c) → count ≡ rows_in d olds
each-digested text c d olds count each e f = each ∙ each-whole text c d olds e f

pub behind-digests : (text : List ℕ) (h : Header) (c d : Change) (olds : List OldRange) (p : Ahead) → change_of text d ≡ no_hunks (change_of text c) → olds ≡ old_ranges (change_of text c) → change_behind text h ≡ Ok (change_of text c, p) → behind_digested text h ≡ Ok (change_of text d, olds, p)
behind-digests text h c d olds p e f read = rw (e, f, read) refl

-- ---- where a file patch lies

pub region-comes : (ways : ReadOptions) (text : List ℕ) (at number end next : ℕ) (h : Header) (q : PlainPatch) (olds : List OldRange) (r : Region) → IsFirstOpening ways text at number h → end ≤ length text
    → patch_digested text h ≡ Ok (q, olds, ahead next (lines (drop end text))) → r ≡ region_up_to text at h end → next_region ways text at number ≡ Some (r, ahead next (lines (drop end text)))
region-comes ways text at number end next h q olds r opens high read is =
    let behind : Ahead = ahead next (lines (drop end text)) in
    let step : Found h ≡ next_step ways text at number = one-step ways text at number (Found h) opens in
    let a = bind_ok (patch_at text h) digested_patch (q, olds, behind) read in
    let b = bind_ok (change_behind text h) (λ x. Ok (patch_with text h x.0, x.1)) a.0 a.1 in
    let same : b.0.1 ≡ behind = ap (λ (x : PlainPatch × Ahead). x.1) (ok_is _ _ b.2) ∙ ap (λ (x : PlainPatch × List OldRange × Ahead). x.2) (ok_is _ _ a.2) in
    ap (region_by text at) (sym step)
    ∙ ap (region_with text at h) b.1
    ∙ ap (λ (p : Ahead). Some (region_up_to text at h (place_before text p.rest), p)) same
    ∙ ap (λ k. Some (region_up_to text at h k, behind)) (place-back text end high)
    ∙ ap (λ (x : Region). Some (x, behind)) (sym is)
