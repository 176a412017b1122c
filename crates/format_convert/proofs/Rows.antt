-- The flags of hunks, and the hunks beside them.
use Rattle.std.proofs.Common.{◌≡◌, ℕ, zero, suc, ◌+◌, ◌<◌, ◌^◌, ◌≤◌, Bool, true, false, ◌||◌, List, [], ◌∷◌, length, get_or, drop, Some, refl, sym, ap, subst, ◌∙◌, arith}
use Rattle.std.specs.List.{list_any}
use Rattle.std.proofs.lemmas.List.{at_drop_more, drop_all}
use Rattle.std.proofs.lemmas.List.FromFn.{get_or-map-range_with_len, length-map-range_with_len}
use Rattle.std.proofs.lemmas.Option.{get_or_from_slice_get, slice_get-get_or}
use Rattle.hunk_core.specs.declared.Hunk.{Hunk}
use Rattle.hunk_core.specs.PlainHunk.{hunks_of}
use Rattle.std.proofs.lemmas.Option.{same_Some}
use Rattle.read_file_patch.specs.declared.Change.{Change}
use Rattle.read_file_patch.specs.declared.Change.TheVariants.{Hunks, Script}
use Rattle.read_file_patch.specs.declared.FilePatch.{FilePatch}
use Rattle.read_file_patch.specs.PlainPatch.{AreLawfulHunks, IsLawfulChange, PlainPatch, change_of, hunk_count, hunks, patch_of, row_count}
use Rattle.patch_set.specs.SetView.{SetView, patch_at}
use Rattle.cli_tool_words.specs.declared.jobs.FilterJob.{FilterJob}
use Rattle.patch_set.proofs.Named.{rows-counted}
use Rattle.filter_choice.specs.Kept.{keeps}
use Rattle.filter_choice.proofs.Rows.{zip-at, zip-count}
use Rattle.cli_tool_words.specs.PlainJobs.{PlainFilterJob, plain_filter_job}
use Rattle.line_list.proofs.Elements.{found}
use Rattle.format_convert.specs.Taken.{flags, left_change, left_patch}
use Rattle.format_convert.specs.Walk.{IsHunks, IsKept, kept_flags, left_hunks, pairs}
use Rattle.format_convert.specs.declared.kept.Kept.{Kept}

pub flag-at : (j : PlainFilterJob) (n : ℕ) (p : PlainPatch) (i : ℕ) (d : Bool) → i < hunk_count p.change → get_or (flags j n p) i d ≡ keeps j n p i
flag-at j n p i d lt = get_or-map-range_with_len (keeps j n p) 0 (hunk_count p.change) i i d lt (omega arith)

pub flags-long : (j : PlainFilterJob) (n : ℕ) (p : PlainPatch) → length (flags j n p) ≡ hunk_count p.change
flags-long j n p = length-map-range_with_len (keeps j n p) 0 (hunk_count p.change)

-- one flag that is set
or-true : (b : Bool) → (b || true) ≡ true
or-true true = refl
or-true false = refl

pub any-at : (fs : List Bool) (i : ℕ) → i < length fs → get_or fs i false ≡ true → list_any (λ is. is) fs ≡ true
any-at [] i lt is = absurd (omega (arith, lt))
any-at (b ∷ fs) zero lt is = ap (λ x. x || list_any (λ y. y) fs) is
any-at (b ∷ fs) (suc i) lt is = ap (λ x. b || x) (any-at fs i (omega (arith, lt)) is) ∙ or-true b

module _ (k : Kept) (is : IsKept k) where
  pub count-is : hunk_count (patch_of k.set.now.text k.row.now).change ≡ length k.hunks.now
  count-is = rows-counted k.set.now.text k.row.now.change ∙ is.count

  pub flags-count : length (kept_flags k) ≡ length k.hunks.now
  flags-count = flags-long (plain_filter_job k.job.now) k.patch (patch_of k.set.now.text k.row.now) ∙ count-is

  pub pairs-long : length (pairs k) ≡ length k.hunks.now
  pairs-long = zip-count (kept_flags k) k.hunks.now flags-count

  -- a hunk with its flag, and those behind it
  pub pair-at : (i : ℕ) (h : Hunk) → i < length k.hunks.now → h ≡ get_or k.hunks.now i h → drop i (pairs k) ≡ (get_or (kept_flags k) i false, h) ∷ drop (i + 1) (pairs k)
  pair-at i h lt at =
      let d : Bool × Hunk = (get_or (kept_flags k) i false, h) in
      at_drop_more (λ xs. xs) (pairs k) i d (omega (arith, lt, pairs-long))
      ∙ ap (λ x. x ∷ drop (i + 1) (pairs k)) (get_or_from_slice_get (pairs k) i d d (zip-at (kept_flags k) k.hunks.now i _ _ (slice_get-get_or (kept_flags k) i false (omega (arith, lt, flags-count))) (found k.hunks.now i h lt at)))

  pub pair-get : (i : ℕ) (h : Hunk) → i < length k.hunks.now → h ≡ get_or k.hunks.now i h → get_or (pairs k) i (get_or (kept_flags k) i false, h) ≡ (get_or (kept_flags k) i false, h)
  pair-get i h lt at =
      let d : Bool × Hunk = (get_or (kept_flags k) i false, h) in
      get_or_from_slice_get (pairs k) i d d (zip-at (kept_flags k) k.hunks.now i _ _ (slice_get-get_or (kept_flags k) i false (omega (arith, lt, flags-count))) (found k.hunks.now i h lt at))

  pub none-behind : (i : ℕ) → length k.hunks.now ≤ i → drop i (pairs k) ≡ []
  none-behind i le = drop_all i (pairs k) (omega (arith, le, pairs-long))

  -- what is left of the file patch are its kept hunks
  pub left-is : (x : FilePatch) → patch_at k.set.now k.patch ≡ Some x → hunks (left_hunks k) ≡ (left_patch (plain_filter_job k.job.now) k.patch (patch_of k.set.now.text x)).change
  left-is x at =
      ap (λ ch. left_change (kept_flags k) ch) (sym is.change)
      ∙ ap (λ (y : FilePatch). left_change (flags (plain_filter_job k.job.now) k.patch (patch_of k.set.now.text y)) (change_of k.set.now.text y.change)) (same_Some k.row.now x (sym is.at ∙ at))

  pub left-of : (v : SetView) (j : FilterJob) (n : ℕ) (x : FilePatch) → k.set.now ≡ v → k.job.now ≡ j → k.patch ≡ n → patch_at v n ≡ Some x → hunks (left_hunks k) ≡ (left_patch (plain_filter_job j) n (patch_of v.text x)).change
  left-of v j n x ev ej en at =
      left-is x (ap (λ (w : SetView). patch_at w k.patch) ev ∙ ap (λ (m : ℕ). patch_at v m) en ∙ at)
      ∙ ap (λ (w : SetView). (left_patch (plain_filter_job k.job.now) k.patch (patch_of w.text x)).change) ev
      ∙ ap (λ (y : FilterJob). (left_patch (plain_filter_job y) k.patch (patch_of v.text x)).change) ej
      ∙ ap (λ (m : ℕ). (left_patch (plain_filter_job j) m (patch_of v.text x)).change) en

-- what a lawful change with hunks is
pub record AreMade (text : List ℕ) (ch : Change) (own : List Hunk) : Type 0 where
  pub lawful : AreLawfulHunks text own
  pub change : change_of text ch ≡ hunks (hunks_of text own)
  pub count : row_count ch ≡ length own

pub are-made : (text : List ℕ) (ch : Change) (own : List Hunk) → IsHunks ch own → IsLawfulChange text ch → AreMade text ch own
are-made text (Hunks hs) own is lawful = record {
  lawful = subst (λ (xs : List Hunk). AreLawfulHunks text xs) is lawful;
  change = ap (λ (xs : List Hunk). hunks (hunks_of text xs)) is;
  count = ap length is;
}
are-made text (Script s) own is lawful = absurd is

pub few-rows : (text : List ℕ) (ch : Change) → IsLawfulChange text ch → row_count ch < 2 ^ 32
few-rows text (Hunks hs) lawful = lawful.count
few-rows text (Script s) lawful = omega arith
