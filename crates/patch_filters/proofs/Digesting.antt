-- File patches of a digest, and which of their hunks are kept.
use Rattle.std.proofs.Common.{◌≡◌, ℕ, zero, suc, ◌<◌, List, [], ◌∷◌, length, map, Some, refl, sym, ap, subst, ◌∙◌, ◌+◌, ◌-◌}
use Rattle.std.specs.Prelude.{slice_get}
use Rattle.std.specs.List.{flat_map, zip}
use Rattle.std.proofs.lemmas.List.{length-map}
use Rattle.std.proofs.lemmas.Option.{same_Some}
use Rattle.unified_form.specs.declared.hunk_scan.OldRange.{OldRange}
use Rattle.unified_form.specs.Skimmed.{old_range}
use Rattle.read_file_patch.specs.declared.Change.{Change}
use Rattle.read_file_patch.specs.declared.Change.TheVariants.{Hunks, Script}
use Rattle.read_file_patch.specs.declared.FilePatch.{FilePatch}
use Rattle.read_file_patch.specs.PlainPatch.{PlainChange, hunks, script, change_of}
use Rattle.hunk_core.specs.PlainHunk.{PlainHunk}
use Rattle.read_patch_text.specs.Digests.{AreDigests, IsDigest, no_hunks, old_ranges, rows_in}
use Rattle.filter_choice.specs.Digested.{DigestView}
use Rattle.cli_tool_words.specs.PlainJobs.{PlainFilterJob}
use Rattle.patch_filters.specs.Digested.{digest_kept, digest_if_taken, filtered_digest, olds_by, range_numbers}
use Rattle.filter_choice.specs.OldLines.{from_to, old_numbers, old_of_each}
use Rattle.filter_choice.specs.Selected.{numbered}
use Rattle.filter_choice.proofs.OldLines.{one-line, some-lines}
use Rattle.filter_choice.proofs.Rows.{flags-count}

-- ---- the old lines of a hunk

pub no-range : (old : OldRange) (count first last : ℕ) → count ≡ old.count → count ≡ 0 → first ≡ old.start → last ≡ old.start → from_to first last ≡ range_numbers old
no-range old count first last is none low high =
    let zero-count : old.count ≡ 0 = sym is ∙ none in
    rw (low, high, zero-count) (one-line old.start)

pub some-range : (old : OldRange) (count first last : ℕ) → count ≡ old.count → 0 < count → first ≡ old.start → last ≡ first + count - 1 → from_to first last ≡ range_numbers old
some-range old count first last is some low end = rw (end, low, is) (some-lines old.start old.count (subst (λ n. 0 < n) is some))

-- ---- the old lines of each

pub olds-by-count : (text : List ℕ) (c : Change) (olds : List OldRange) → length (olds_by (change_of text c) olds) ≡ rows_in c olds
olds-by-count text (Hunks hs) olds = length-map olds range_numbers
olds-by-count text (Script s) olds = refl

same-numbers : (hs : List PlainHunk) → map range_numbers (map old_range hs) ≡ map old_numbers hs
same-numbers [] = refl
same-numbers (h ∷ hs) = ap (λ (ns : List (List ℕ)). old_numbers h ∷ ns) (same-numbers hs)

-- what was kept of a change tells the old lines of each of its hunks
pub olds-same : (c : PlainChange) → olds_by (no_hunks c) (old_ranges c) ≡ old_of_each c
olds-same (hunks hs) = same-numbers hs
olds-same (script es) = refl

-- ---- one file patch

module _ (j : PlainFilterJob) (text : List ℕ) (p : FilePatch) (olds : List OldRange) (digest : IsDigest text p olds) where
  pub digest-long : length (digest_kept j text p olds) ≡ length p.hunk_spans.items
  digest-long = flags-count j (olds_by (change_of text p.change) olds) ∙ olds-by-count text p.change olds ∙ sym digest.each

pub digest-at : (text : List ℕ) (ps : List FilePatch) (os : List (List OldRange)) (i : ℕ) (p : FilePatch) (own : List OldRange) → AreDigests text ps os → slice_get ps i ≡ Some p → slice_get os i ≡ Some own → IsDigest text p own
digest-at text [] os i p own are is also = absurd cc
digest-at text (q ∷ ps) [] i p own are is also = absurd are
digest-at text (q ∷ ps) (o ∷ os) zero p own are is also = subst (λ x. IsDigest text x own) (same_Some q p is) (subst (λ x. IsDigest text q x) (same_Some o own also) are.0)
digest-at text (q ∷ ps) (o ∷ os) (suc i) p own are is also = digest-at text ps os i p own are.1 is also

-- ---- all of them

pub filtered-digest-is : (j : PlainFilterJob) (v : DigestView) → filtered_digest j v ≡ flat_map (digest_if_taken j v.text) (numbered (zip v.patches v.olds))
unfolding filtered_digest
filtered-digest-is j v = refl
