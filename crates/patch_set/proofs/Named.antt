-- File patches with their targets.
use Rattle.std.proofs.Common.{◌≡◌, ℕ, suc, ◌+◌, ◌<◌, ◌^◌, List, [], ◌∷◌, ◌++◌, map, length, All, refl, sym, ap, subst, ◌∙◌}
use Rattle.std.specs.List.{AllByRecursion}
use Rattle.std.proofs.lemmas.List.{length-map}
use Rattle.std.proofs.lemmas.List.Sums.{sum_by-cons}
use Rattle.std.proofs.lemmas.List.Elements.{recursion_from_All, All-from_recursion}
use Rattle.hunk_core.specs.declared.Side.{Side}
use Rattle.hunk_core.specs.declared.Side.TheVariants.{Forward, Reversed}
use Rattle.hunk_core.specs.PlainHunk.{hunk_of}
use Rattle.read_file_patch.specs.declared.Change.{Change}
use Rattle.read_file_patch.specs.declared.Change.TheVariants.{Hunks, Script}
use Rattle.read_file_patch.specs.declared.FilePatch.{FilePatch}
use Rattle.read_file_patch.specs.PlainPatch.{header_of, change_of, patch_of, hunk_count, row_count, IsLawfulChange}
use Rattle.read_file_patch.specs.Absent.{told_absent, is_absent, IsLawfulPatch}
use Rattle.patch_options.specs.PlainJob.{PlainOptions}
use Rattle.read_file_patch.specs.Numbered.{joined_by}
use Rattle.patch_set.specs.Named.{names_of, targets_of}
use Rattle.patch_set.specs.Naming.{IsNamed, AreNamed}
use Rattle.patch_set.specs.SetView.{hunks_in}
use Rattle.read_patch_text.specs.Regions.{region_of}
use Rattle.patch_set.specs.Spans.{IsPlaced, ArePlaced}
use Rattle.patch_set.proofs.Joined.{joined-append}

pub rows-counted : (text : List ℕ) (c : Change) → hunk_count (change_of text c) ≡ row_count c
rows-counted text (Hunks hs) = length-map hs.items (hunk_of text)
rows-counted text (Script s) = refl

module _ (o : PlainOptions) (text : List ℕ) (known : List (List ℕ)) where
  pub named-more : (ps qs : List FilePatch) (p q : FilePatch) → AreNamed o text known ps qs → IsNamed o text known p q → AreNamed o text known (ps ++ p ∷ []) (qs ++ q ∷ [])
  named-more [] [] p q are is = (is, tt)
  named-more [] (x ∷ qs) p q are is = absurd are
  named-more (x ∷ ps) [] p q are is = absurd are
  named-more (x ∷ ps) (y ∷ qs) p q are is = (are.0, named-more ps qs p q are.1 is)

  pub named-count : (ps qs : List FilePatch) → AreNamed o text known ps qs → length qs ≡ length ps
  named-count [] [] are = refl
  named-count [] (y ∷ qs) are = absurd are
  named-count (x ∷ ps) [] are = absurd are
  named-count (x ∷ ps) (y ∷ qs) are = ap suc (named-count ps qs are.1)

  pub same-plain : (p q : FilePatch) → IsNamed o text known p q → patch_of text q ≡ patch_of text p
  same-plain p q is = rw (is.header, is.change) refl

  pub named-plain : (ps qs : List FilePatch) → AreNamed o text known ps qs → map (patch_of text) qs ≡ map (patch_of text) ps
  named-plain [] [] are = refl
  named-plain [] (y ∷ qs) are = absurd are
  named-plain (x ∷ ps) [] are = absurd are
  named-plain (x ∷ ps) (y ∷ qs) are = ap (λ r. r ∷ map (patch_of text) qs) (same-plain x y are.0) ∙ ap (λ rs. patch_of text x ∷ rs) (named-plain ps qs are.1)

  pub named-hunks : (ps qs : List FilePatch) → AreNamed o text known ps qs → hunks_in qs ≡ hunks_in ps
  named-hunks [] [] are = refl
  named-hunks [] (y ∷ qs) are = absurd are
  named-hunks (x ∷ ps) [] are = absurd are
  named-hunks (x ∷ ps) (y ∷ qs) are =
      sum_by-cons (λ p. row_count p.change) y qs ∙ ap (λ c. row_count c + hunks_in qs) are.0.change
      ∙ ap (λ n. row_count x.change + n) (named-hunks ps qs are.1) ∙ sym (sum_by-cons (λ p. row_count p.change) x ps)

  same-told : (side : Side) (p q : FilePatch) → IsNamed o text known p q → told_absent side q ≡ told_absent side p
  same-told Forward p q is = is.old_absent
  same-told Reversed p q is = is.new_absent

  pub same-lawful : (p q : FilePatch) → IsNamed o text known p q → IsLawfulPatch text p → IsLawfulPatch text q
  same-lawful p q is lawful = record {
    change = subst (λ c. IsLawfulChange text c) (sym is.change) lawful.change;
    absent = λ side. same-told side p q is ∙ lawful.absent side ∙ ap (is_absent side) (sym (same-plain p q is));
  }

  lawful-each : (ps qs : List FilePatch) → AreNamed o text known ps qs → AllByRecursion (IsLawfulPatch text) ps → AllByRecursion (IsLawfulPatch text) qs
  lawful-each [] [] are all = tt
  lawful-each [] (y ∷ qs) are all = absurd are
  lawful-each (x ∷ ps) [] are all = absurd are
  lawful-each (x ∷ ps) (y ∷ qs) are all = (same-lawful x y are.0 all.0, lawful-each ps qs are.1 all.1)

  pub named-lawful : (ps qs : List FilePatch) → AreNamed o text known ps qs → All (IsLawfulPatch text) ps → All (IsLawfulPatch text) qs
  named-lawful ps qs are all = All-from_recursion (IsLawfulPatch text) qs (lawful-each ps qs are (recursion_from_All (IsLawfulPatch text) ps all))

  same-place : (start before : ℕ) (p q : FilePatch) → IsNamed o text known p q → IsPlaced text start before p → IsPlaced text start before q
  same-place start before p q is at = record {
    begins = rw is.span at.begins;
    region = rw is.header at.region;
    cut = rw (is.header, is.hunk_spans, is.span) at.cut;
    each = rw (is.hunk_spans, is.change) at.each;
    pieces = rw (is.header, is.hunk_spans, is.change) at.pieces;
    some = rw (is.header, is.span) at.some;
    high = rw is.span at.high;
    number = rw is.header at.number;
    first = is.first ∙ at.first;
  }

  pub named-placed : (start before : ℕ) (ps qs : List FilePatch) → AreNamed o text known ps qs → ArePlaced text start before ps → ArePlaced text start before qs
  named-placed start before [] [] are at = tt
  named-placed start before [] (y ∷ qs) are at = absurd are
  named-placed start before (x ∷ ps) [] are at = absurd are
  named-placed start before (x ∷ ps) (y ∷ qs) are at = (
    same-place start before x y are.0 at.0,
    rw (are.0.span, are.0.change) (named-placed x.span.end (before + row_count x.change) ps qs are.1 at.1),
  )

  same-region : (p q : FilePatch) → IsNamed o text known p q → region_of q ≡ region_of p
  same-region p q is = rw (is.header, is.hunk_spans, is.span) refl

  -- they lie where they lay
  pub named-regions : (ps qs : List FilePatch) → AreNamed o text known ps qs → map region_of qs ≡ map region_of ps
  named-regions [] [] are = refl
  named-regions [] (y ∷ qs) are = absurd are
  named-regions (x ∷ ps) [] are = absurd are
  named-regions (x ∷ ps) (y ∷ qs) are = ap (λ r. r ∷ map region_of qs) (same-region x y are.0) ∙ ap (λ rs. region_of x ∷ rs) (named-regions ps qs are.1)

  pub named-targets : (ps qs : List FilePatch) → AreNamed o text known ps qs
      → map (λ q. q.targets.items) qs ≡ map (λ q. targets_of o known (header_of text q.header)) qs
  named-targets [] [] are = refl
  named-targets [] (y ∷ qs) are = absurd are
  named-targets (x ∷ ps) [] are = absurd are
  named-targets (x ∷ ps) (y ∷ qs) are =
      ap (λ t. t ∷ map (λ q. q.targets.items) qs) (are.0.targets ∙ ap (λ h. targets_of o known (header_of text h)) (sym are.0.header))
      ∙ ap (λ ts. targets_of o known (header_of text y.header) ∷ ts) (named-targets ps qs are.1)

  few-each : (ps qs : List FilePatch) → AreNamed o text known ps qs → AllByRecursion (λ q. length q.targets.items < 2 ^ 32) qs
  few-each [] [] are = tt
  few-each [] (y ∷ qs) are = absurd are
  few-each (x ∷ ps) [] are = absurd are
  few-each (x ∷ ps) (y ∷ qs) are = (are.0.few, few-each ps qs are.1)

  pub named-few : (ps qs : List FilePatch) → AreNamed o text known ps qs → All (λ q. length q.targets.items < 2 ^ 32) qs
  named-few ps qs are = All-from_recursion (λ q. length q.targets.items < 2 ^ 32) qs (few-each ps qs are)

-- the file patches so far have their targets, whichever names come later
pub record HaveNames (o : PlainOptions) (text : List ℕ) (known : List (List ℕ)) (ps qs : List FilePatch) : Type 0 where
  pub are : (others : List (List ℕ)) → AreNamed o text (joined_by known others) ps qs

pub names-more : (o : PlainOptions) (text : List ℕ) (known later : List (List ℕ)) (ps qs : List FilePatch) (p q : FilePatch)
    → HaveNames o text known ps qs → later ≡ joined_by known (names_of o (header_of text p.header))
    → ((others : List (List ℕ)) → IsNamed o text (joined_by later others) p q)
    → HaveNames o text later (ps ++ p ∷ []) (qs ++ q ∷ [])
names-more o text known later ps qs p q have is one = record {
  are = λ others.
      let names = names_of o (header_of text p.header) in
      let same : joined_by known (names ++ others) ≡ joined_by later others = joined-append known names others ∙ ap (λ k. joined_by k others) (sym is) in
      named-more o text (joined_by later others) ps qs p q (subst (λ k. AreNamed o text k ps qs) same (have.are (names ++ others))) (one others);
}
