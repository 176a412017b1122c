-- One file patch of a set.
use Rattle.std.proofs.Common.{◌≡◌, ℕ, zero, suc, ◌+◌, ◌-◌, ◌*◌, ◌^◌, ◌<◌, ◌≤◌, length, Fits, w32, w64, arith, List, [], ◌∷◌, ◌++◌, map, reverse, refl, sym, ap, subst, ◌∙◌, Some}
use Rattle.std.specs.Prelude.{slice_get}
use Rattle.std.specs.List.{flat_map}
use Rattle.std.proofs.lemmas.List.Concat.{flat_map-cons}
use Rattle.std.proofs.lemmas.Option.{same_Some}
use Rattle.hunk_core.specs.declared.Form.{Form}
use Rattle.hunk_core.specs.declared.Hunk.{Hunk}
use Rattle.hunk_core.specs.PlainHunk.{hunk_of, hunks_of}
use Rattle.hunk_core.specs.Turned.{swapped}
use Rattle.read_file_patch.specs.declared.FilePatch.{FilePatch}
use Rattle.read_file_patch.specs.PlainPatch.{row_count}
use Rattle.patch_set.specs.Spans.{ArePlaced, IsPlaced}
use Rattle.patch_set.specs.SetView.{SetView}
use Rattle.flip_patch.specs.Flipped.{flipped, flipped_patch, hunk_text}

pub placed-at : (text : List ℕ) (start before : ℕ) (ps : List FilePatch) (i : ℕ) (p : FilePatch) → ArePlaced text start before ps → slice_get ps i ≡ Some p → IsPlaced text p.span.start p.first_verdict p
placed-at text start before [] i p placed is = absurd (cc)
placed-at text start before (q ∷ ps) zero p placed is =
    let same : q ≡ p = same_Some q p is in
    subst (λ x. IsPlaced text x.span.start x.first_verdict x) same
    (subst (λ n. IsPlaced text q.span.start n q) (sym placed.0.first) (subst (λ s. IsPlaced text s before q) (sym placed.0.begins) placed.0))
placed-at text start before (q ∷ ps) (suc i) p placed is = placed-at text q.span.end (before + row_count q.change) ps i p placed.1 is

-- the hunks of a file patch, each turned round and written
pub flat-swapped : (text : List ℕ) (form : Form) (hs : List Hunk) → flat_map (hunk_text form) (map swapped (hunks_of text hs)) ≡ flat_map (λ h. hunk_text form (swapped (hunk_of text h))) hs
flat-swapped text form [] = refl
flat-swapped text form (h ∷ hs) =
    flat_map-cons (hunk_text form) (swapped (hunk_of text h)) (map swapped (hunks_of text hs))
    ∙ ap (λ bs. hunk_text form (swapped (hunk_of text h)) ++ bs) (flat-swapped text form hs)
    ∙ sym (flat_map-cons (λ x. hunk_text form (swapped (hunk_of text x))) h hs)

pub flipped-is : (v : SetView) → flipped v ≡ flat_map (flipped_patch v.text) (reverse v.patches)
unfolding flipped
flipped-is v = refl

-- ---- numbers of file patches, from the last one

pub patch-fits : (i n : ℕ) → i < n → n < 2 ^ 32 → Fits w64 (i * 304)
patch-fits i n lt few = omega arith

pub number-fits : (i n : ℕ) → i < n → n < 2 ^ 32 → Fits w32 i
number-fits i n lt few = omega arith

pub long-enough : (ps qs : List FilePatch) → ps ≡ qs → length qs ≤ length ps
long-enough ps qs is = omega (arith, ap length is)

pub under-end : (i : ℕ) (ps qs : List FilePatch) → 0 < i → i ≤ length ps → ps ≡ qs → i - 1 < length qs
under-end i ps qs lt le is = omega (arith, ap length is)

pub down-up : (i : ℕ) → 0 < i → i ≡ i - 1 + 1
down-up i lt = omega arith

pub falls : (i : ℕ) → 0 < i → i - 1 - 0 < i - 0
falls i lt = omega arith

pub some-left : (i : ℕ) → 0 < i → 1 ≤ i
some-left i lt = omega arith
