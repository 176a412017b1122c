-- What of a text stands outside of its file patches, behind some of them.
use Rattle.std.proofs.Common.{◌≡◌, ℕ, ◌+◌, ◌-◌, ◌<◌, ◌≤◌, List, [], ◌∷◌, length, drop, map, slice_range, Bool, true, false, ◌||◌, refl, sym, ◌∙◌, ap, subst, arith, get_or, length-drop}
use Rattle.std.specs.List.{list_any}
use Rattle.std.proofs.Math.Bool.{or-false}
use Rattle.std.proofs.lemmas.List.{drop_more, drop_all, take_all}
use Rattle.read_file_patch.specs.declared.FilePatch.{FilePatch}
use Rattle.read_file_patch.specs.PlainPatch.{row_count}
use Rattle.read_patch_text.specs.Regions.{region_of}
use Rattle.patch_set.specs.SetView.{SetView, IsWhole}
use Rattle.patch_set.specs.Spans.{ArePlaced}
use Rattle.patch_cli.specs.Damaged.{parts_outside, tells_damaged, has_damaged}

abbrev pub told_from : List ℕ → ℕ → List FilePatch → Bool
told_from text at ps = list_any tells_damaged (parts_outside text at (map region_of ps))

-- each lies behind the one before, the first behind a place
abbrev pub Lie : List ℕ → ℕ → List FilePatch → Type 0
Lie text at [] = at ≤ length text
Lie text at (p ∷ ps) = (at ≤ p.header.at) × (p.header.at ≤ length text) × Lie text p.span.end ps

-- behind a place in a text these of its file patches are left
pub record AreLeft (text : List ℕ) (at : ℕ) (ps left : List FilePatch) : Type 0 where
  pub lie : Lie text at left
  pub same : told_from text 0 ps ≡ told_from text at left

lie : (text : List ℕ) (at before : ℕ) (ps : List FilePatch) → at ≤ length text → ArePlaced text at before ps → Lie text at ps
lie text at before [] low placed = low
lie text at before (p ∷ ps) low placed = (placed.0.region, omega (arith, placed.0.some, placed.0.high), lie text p.span.end (before + row_count p.change) ps placed.0.high placed.1)

module _ (v : SetView) (whole : IsWhole v) (text : List ℕ) (ps : List FilePatch) (text_is : text ≡ v.text) (patches_are : ps ≡ v.patches) where
  pub all_left : AreLeft text 0 ps ps
  all_left = record {
    lie = subst (λ (t : List ℕ). Lie t 0 ps) (sym text_is) (subst (λ (qs : List FilePatch). Lie v.text 0 qs) (sym patches_are) (lie v.text 0 0 v.patches (omega arith) whole.placed));
    same = refl;
  }

  pub told_all : told_from text 0 ps ≡ has_damaged v.ways v.text
  told_all = ap (λ (t : List ℕ). told_from t 0 ps) text_is ∙ ap (λ (qs : List FilePatch). told_from v.text 0 qs) patches_are ∙ ap (λ rs. list_any tells_damaged (parts_outside v.text 0 rs)) whole.regions

module _ (text : List ℕ) (at : ℕ) (ps : List FilePatch) (k : ℕ) (left : AreLeft text at ps (drop k ps)) where
  module _ (p : FilePatch) (lt : k < length ps) (is : p ≡ get_or ps k p) where
    next : AreLeft text at ps (p ∷ drop (k + 1) ps)
    next = subst (λ (qs : List FilePatch). AreLeft text at ps qs) (drop_more ps k p lt ∙ ap (λ q. q ∷ drop (k + 1) ps) (sym is)) left

    pub low : at ≤ p.header.at
    low = next.lie.0

    pub high : p.header.at ≤ length text
    high = next.lie.1

    pub here : tells_damaged (slice_range text at p.header.at) ≡ true → told_from text 0 ps ≡ true
    here told = next.same ∙ ap (λ b. b || told_from text p.span.end (drop (k + 1) ps)) told

    pub on : tells_damaged (slice_range text at p.header.at) ≡ false → AreLeft text p.span.end ps (drop (k + 1) ps)
    on told = record { lie = next.lie.2; same = next.same ∙ ap (λ b. b || told_from text p.span.end (drop (k + 1) ps)) told }

  module _ (all : length ps ≤ k) where
    last : AreLeft text at ps []
    last = subst (λ (qs : List FilePatch). AreLeft text at ps qs) (drop_all k ps all) left

    pub within : at ≤ length text
    within = last.lie

    rest : slice_range text at (length text) ≡ drop at text
    rest = take_all (length text - at) (drop at text) (omega (arith, length-drop at text))

    pub behind : told_from text 0 ps ≡ tells_damaged (slice_range text at (length text))
    behind = last.same ∙ or-false (tells_damaged (drop at text)) ∙ sym (ap tells_damaged rest)
