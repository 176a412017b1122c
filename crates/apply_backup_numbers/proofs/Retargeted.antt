-- File patches with other targets are as lawful as they were, and lie where they lay.
use Rattle.std.proofs.Common.{◌≡◌, ℕ, ◌+◌, List, [], ◌∷◌, map, All, Option, refl, sym, ap, subst, ◌∙◌, arith}
use Rattle.std.proofs.lemmas.List.Sums.{sum_by-cons}
use Rattle.std.proofs.lemmas.List.Elements.{All-nil, All-cons, All-head, All-tail}
use Rattle.outside.specs.Files.{Files}
use Rattle.hunk_core.specs.declared.Side.{Side}
use Rattle.hunk_core.specs.declared.Side.TheVariants.{Forward, Reversed}
use Rattle.read_file_patch.specs.declared.FilePatch.{FilePatch}
use Rattle.read_file_patch.specs.PlainPatch.{patch_of, row_count, IsLawfulChange}
use Rattle.read_file_patch.specs.Absent.{told_absent, is_absent, IsLawfulPatch}
use Rattle.patch_header.specs.declared.read_options.ReadOptions.{ReadOptions}
use Rattle.patch_options.specs.declared.options.BackupNumbers.{BackupNumbers}
use Rattle.read_patch_text.specs.Regions.{region_of}
use Rattle.patch_set.specs.Fresh.{AreWhole}
use Rattle.patch_set.specs.SetView.{hunks_in}
use Rattle.patch_set.specs.Spans.{IsPlaced, ArePlaced}
use Rattle.apply_backup_numbers.specs.Renumbered.{Each, IsRetargeted}
use Rattle.apply_backup_numbers.proofs.Each.{each-long}

-- what two file patches have in common that have other targets at most
record Keeps (p q : FilePatch) : Type 0 where
  pub header : q.header ≡ p.header
  pub span : q.span ≡ p.span
  pub hunk_spans : q.hunk_spans ≡ p.hunk_spans
  pub change : q.change ≡ p.change
  pub old_absent : q.old_absent ≡ p.old_absent
  pub new_absent : q.new_absent ≡ p.new_absent
  pub first : q.first_verdict ≡ p.first_verdict

keeps : (p q : FilePatch) → q ≡ record p { targets = q.targets } → Keeps p q
keeps p q same = record {
  header = ap (λ (x : FilePatch). x.header) same;
  span = ap (λ (x : FilePatch). x.span) same;
  hunk_spans = ap (λ (x : FilePatch). x.hunk_spans) same;
  change = ap (λ (x : FilePatch). x.change) same;
  old_absent = ap (λ (x : FilePatch). x.old_absent) same;
  new_absent = ap (λ (x : FilePatch). x.new_absent) same;
  first = ap (λ (x : FilePatch). x.first_verdict) same;
}

same-told : (side : Side) (p q : FilePatch) → Keeps p q → told_absent side q ≡ told_absent side p
same-told Forward p q is = is.old_absent
same-told Reversed p q is = is.new_absent

same-plain : (text : List ℕ) (p q : FilePatch) → Keeps p q → patch_of text q ≡ patch_of text p
same-plain text p q is = rw (is.header, is.change) refl

same-region : (p q : FilePatch) → Keeps p q → region_of q ≡ region_of p
same-region p q is = rw (is.header, is.hunk_spans, is.span) refl

same-lawful : (text : List ℕ) (p q : FilePatch) → Keeps p q → IsLawfulPatch text p → IsLawfulPatch text q
same-lawful text p q is lawful = record {
  change = subst (λ c. IsLawfulChange text c) (sym is.change) lawful.change;
  absent = λ side. same-told side p q is ∙ lawful.absent side ∙ ap (is_absent side) (sym (same-plain text p q is));
}

same-place : (text : List ℕ) (start before : ℕ) (p q : FilePatch) → Keeps p q → IsPlaced text start before p → IsPlaced text start before q
same-place text start before p q is at = record {
  begins = rw is.span at.begins;
  region = rw is.header at.region;
  cut = rw (is.header, is.hunk_spans, is.span) at.cut;
  each = rw (is.hunk_spans, is.change) at.each;
  pieces = rw (is.header, is.hunk_spans, is.change) at.pieces;
  some = rw (is.header, is.span) at.some;
  high = rw is.span at.high;
  number = rw is.header at.number;
  first = is.first ∙ at.first;
}

module _ (numbers : BackupNumbers) (told : Option Files) where
  regions-stay : (ps qs : List FilePatch) → Each (IsRetargeted numbers told) ps qs → map region_of qs ≡ map region_of ps
  regions-stay [] [] each = refl
  regions-stay [] (q ∷ qs) each = absurd each
  regions-stay (p ∷ ps) [] each = absurd each
  regions-stay (p ∷ ps) (q ∷ qs) each = ap (λ r. r ∷ map region_of qs) (same-region p q (keeps p q each.0.same)) ∙ ap (λ rs. region_of p ∷ rs) (regions-stay ps qs each.1)

  hunks-stay : (ps qs : List FilePatch) → Each (IsRetargeted numbers told) ps qs → hunks_in qs ≡ hunks_in ps
  hunks-stay [] [] each = refl
  hunks-stay [] (q ∷ qs) each = absurd each
  hunks-stay (p ∷ ps) [] each = absurd each
  hunks-stay (p ∷ ps) (q ∷ qs) each =
      sum_by-cons (λ (x : FilePatch). row_count x.change) q qs ∙ ap (λ c. row_count c + hunks_in qs) (keeps p q each.0.same).change
      ∙ ap (λ n. row_count p.change + n) (hunks-stay ps qs each.1) ∙ sym (sum_by-cons (λ (x : FilePatch). row_count x.change) p ps)

  module _ (text : List ℕ) where
    lawful-stay : (ps qs : List FilePatch) → Each (IsRetargeted numbers told) ps qs → All (IsLawfulPatch text) ps → All (IsLawfulPatch text) qs
    lawful-stay [] [] each all = All-nil (IsLawfulPatch text)
    lawful-stay [] (q ∷ qs) each all = absurd each
    lawful-stay (p ∷ ps) [] each all = absurd each
    lawful-stay (p ∷ ps) (q ∷ qs) each all =
        All-cons (IsLawfulPatch text) q qs (same-lawful text p q (keeps p q each.0.same) (All-head (IsLawfulPatch text) p ps all))
        (lawful-stay ps qs each.1 (All-tail (IsLawfulPatch text) p ps all))

    placed-stay : (start before : ℕ) (ps qs : List FilePatch) → Each (IsRetargeted numbers told) ps qs → ArePlaced text start before ps → ArePlaced text start before qs
    placed-stay start before [] [] each at = tt
    placed-stay start before [] (q ∷ qs) each at = absurd each
    placed-stay start before (p ∷ ps) [] each at = absurd each
    placed-stay start before (p ∷ ps) (q ∷ qs) each at =
        let is = keeps p q each.0.same in
        (same-place text start before p q is at.0, rw (is.span, is.change) (placed-stay p.span.end (before + row_count p.change) ps qs each.1 at.1))

    pub whole-still : (ways : ReadOptions) (ps qs : List FilePatch) → Each (IsRetargeted numbers told) ps qs → AreWhole ways text ps → AreWhole ways text qs
    whole-still ways ps qs each whole = record {
      lawful = lawful-stay ps qs each whole.lawful;
      regions = regions-stay ps qs each ∙ whole.regions;
      placed = placed-stay 0 0 ps qs each whole.placed;
      count = omega (arith, whole.count, each-long (IsRetargeted numbers told) ps qs each);
      hunks = omega (arith, whole.hunks, hunks-stay ps qs each);
    }
