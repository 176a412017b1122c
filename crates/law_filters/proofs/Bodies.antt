-- What is left of a file patch that was read, once it is written in a form.
use Rattle.std.proofs.Common.{◌≡◌, ℕ, Bool, true, false, not, ◌&&◌, List, [], ◌∷◌, length, map, refl, sym, ap, ◌∙◌, arith}
use Rattle.std.specs.List.{AllByRecursion, list_any}
use Rattle.std.proofs.lemmas.List.{length-map}
use Rattle.hunk_core.specs.declared.Form.{Form}
use Rattle.hunk_core.specs.declared.Form.TheVariants.{Unified, Context, Normal, Ed}
use Rattle.hunk_core.specs.PlainHunk.{PlainHunk, bytes_at, hunk_of, hunks_of}
use Rattle.ed_form.specs.PlainEdit.{edits_of}
use Rattle.patch_header.specs.declared.read_options.ReadOptions.{ReadOptions}
use Rattle.read_file_patch.specs.PlainPatch.{IsLawfulChange, hunk_count, hunks, change_of, row_count}
use Rattle.read_file_patch.specs.declared.Change.{Change}
use Rattle.read_file_patch.specs.declared.Change.TheVariants.{Hunks, Script}
use Rattle.read_file_patch.specs.declared.FilePatch.{FilePatch}
use Rattle.read_patch_text.specs.Changes.{SpellChange}
use Rattle.patch_set.specs.Spans.{IsPlaced}
use Rattle.format_convert.specs.Blocks.{changes}
use Rattle.format_convert.specs.Fitting.{is_unfit}
use Rattle.format_convert.specs.Taken.{kept_hunks, left_change}
use Rattle.format_convert.specs.Converted.{change_text, is_written, pieces}
use Rattle.format_convert.specs.Refusals.{change_lacks, shows_context}
use Rattle.law_reading.proofs.Hunks.{IsGood, Rising}
use Rattle.law_reading.proofs.FlipReading.{HasHunk, all-good, hunk-form}
use Rattle.law_filters.specs.ReadAgain.{change_again}
use Rattle.law_filters.proofs.Changes.{hunks-changes, script-changes}
use Rattle.law_filters.proofs.EdBody.{ed-body, script-body}
use Rattle.law_filters.proofs.Kept.{kept-all, kept-rising, kept-some, read-rising}
use Rattle.law_filters.proofs.NormalBody.{normal-body}
use Rattle.law_filters.proofs.Shown.{Body, context-body, told-kept, unified-body}

-- ---- a file patch of which a hunk is kept isn't bare

none-any : (are : List Bool) → length are ≡ 0 → list_any (λ is. is) are ≡ false
none-any [] e = refl
none-any (b ∷ are) e = absurd (omega (arith, e))

same-count : (text : List ℕ) (c : Change) → hunk_count (change_of text c) ≡ row_count c
same-count text (Hunks hs) = length-map hs.items _
same-count text (Script s) = refl

pub not-bare : (text : List ℕ) (start before : ℕ) (p : FilePatch) (are : List Bool) → IsPlaced text start before p → list_any (λ is. is) are ≡ true → length are ≡ hunk_count (change_of text p.change) → p.header.bare ≡ false
not-bare text start before p are placed some long = by p.header.bare refl
  where
    by : (v : Bool) → p.header.bare ≡ v → p.header.bare ≡ false
    by true is =
        let none : length p.hunk_spans.items ≡ 0 = ap length (placed.cut.none is) in
        let empty : length are ≡ 0 = long ∙ same-count text p.change ∙ sym placed.each ∙ none in
        absurd (let bad : true ≡ false = sym some ∙ none-any are empty in cc)
    by false is = is

-- ---- each form

record IsKept (hs : List PlainHunk) : Type 0 where
  good : AllByRecursion IsGood hs
  rises : Rising 0 (map (λ h. h.old_start) hs)
  some : HasHunk hs

hunks-body : (ways : ReadOptions) (form from : Form) (are : List Bool) (ts : List (List ℕ)) (gs : List PlainHunk) → length ts ≡ length gs → IsKept (kept_hunks are gs)
    → (not (shows_context form) && is_unfit form (hunks (kept_hunks are gs))) ≡ false → is_written form (hunks (kept_hunks are gs)) ≡ true → Body ways form (hunks (kept_hunks are gs)) (change_text form from are ts (hunks gs))
hunks-body ways Unified from are ts gs same k fits written = unified-body ways (kept_hunks are gs) (change_text Unified from are ts (hunks gs)) (told-kept Unified from are ts gs same) k.good k.rises k.some
hunks-body ways Context from are ts gs same k fits written = context-body ways (kept_hunks are gs) (change_text Context from are ts (hunks gs)) (told-kept Context from are ts gs same) k.good k.rises k.some
hunks-body ways Normal from are ts gs same k fits written = normal-body ways (kept_hunks are gs) k.good fits written
hunks-body ways Ed from are ts gs same k fits written = ed-body ways (kept_hunks are gs) k.good fits written

-- the change of a file patch with these hunks kept
pub body-for : (ways : ReadOptions) (text : List ℕ) (form : Form) (start before : ℕ) (p : FilePatch) (are : List Bool) → IsPlaced text start before p → IsLawfulChange text p.change → p.header.bare ≡ false
    → list_any (λ is. is) are ≡ true → length are ≡ hunk_count (change_of text p.change)
    → change_lacks form p.header.form (left_change are (change_of text p.change)) ≡ false → (not (shows_context form) && is_unfit form (left_change are (change_of text p.change))) ≡ false → is_written form (left_change are (change_of text p.change)) ≡ true
    → Body ways form (left_change are (change_of text p.change)) (change_text form p.header.form are (pieces text p) (change_of text p.change))
body-for ways text form start before p are placed lawful bare some long lacks fits written = by p.change placed.pieces placed.each lawful long lacks fits written
  where
    by : (c : Change) → SpellChange text p.header.form p.hunk_spans.items (change_of text c) → length p.hunk_spans.items ≡ row_count c → IsLawfulChange text c → length are ≡ hunk_count (change_of text c)
        → change_lacks form p.header.form (left_change are (change_of text c)) ≡ false → (not (shows_context form) && is_unfit form (left_change are (change_of text c))) ≡ false → is_written form (left_change are (change_of text c)) ≡ true
        → Body ways form (left_change are (change_of text c)) (change_text form p.header.form are (pieces text p) (change_of text c))
    by (Hunks hs) cut each lawful long lacks fits written =
        let gs : List PlainHunk = hunks_of text hs.items in
        let hunky = hunk-form text p.header.form p.header.at p.span.end p.hunk_spans.items gs (placed.cut.turn bare) placed.some cut in
        let kept : IsKept (kept_hunks are gs) = record {
          good = kept-all IsGood are gs (all-good text p.header.form 0 p.hunk_spans.items gs hunky cut);
          rises = kept-rising 0 are gs (read-rising text p.header.form 0 p.hunk_spans.items gs hunky cut);
          some = kept-some are gs some long;
        } in
        let same : length (pieces text p) ≡ length gs = length-map p.hunk_spans.items (bytes_at text) ∙ each ∙ sym (length-map hs.items (hunk_of text)) in
        hunks-body ways form p.header.form are (pieces text p) gs same kept fits written
    by (Script s) cut each lawful long lacks fits written = script-body ways form p.header.form are (pieces text p) (edits_of text s.edits.items) lawful.edits lacks fits written

-- a file patch with these hunks kept makes the same changes again
pub changes-for : (text : List ℕ) (form : Form) (start before : ℕ) (p : FilePatch) (are : List Bool) → IsPlaced text start before p → IsLawfulChange text p.change → p.header.bare ≡ false
    → change_lacks form p.header.form (left_change are (change_of text p.change)) ≡ false → (not (shows_context form) && is_unfit form (left_change are (change_of text p.change))) ≡ false
    → changes (change_again form (left_change are (change_of text p.change))) ≡ changes (left_change are (change_of text p.change))
changes-for text form start before p are placed lawful bare lacks fits = by p.change placed.pieces lawful lacks fits
  where
    by : (c : Change) → SpellChange text p.header.form p.hunk_spans.items (change_of text c) → IsLawfulChange text c
        → change_lacks form p.header.form (left_change are (change_of text c)) ≡ false → (not (shows_context form) && is_unfit form (left_change are (change_of text c))) ≡ false
        → changes (change_again form (left_change are (change_of text c))) ≡ changes (left_change are (change_of text c))
    by (Hunks hs) pieces lawful lacks fits =
        let gs : List PlainHunk = hunks_of text hs.items in
        let hunky = hunk-form text p.header.form p.header.at p.span.end p.hunk_spans.items gs (placed.cut.turn bare) placed.some pieces in
        hunks-changes form (kept_hunks are gs) (kept-all IsGood are gs (all-good text p.header.form 0 p.hunk_spans.items gs hunky pieces)) fits
    by (Script s) pieces lawful lacks fits = script-changes form p.header.form (edits_of text s.edits.items) lawful.edits lacks
