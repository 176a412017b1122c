-- The verdicts on the hunks of one file patch of a set.
use Rattle.std.proofs.Common.{◌≡◌, ℕ, zero, suc, ◌+◌, ◌≤◌, List, [], ◌∷◌, Some, subst, arith}
use Rattle.std.specs.Prelude.{slice_get}
use Rattle.std.proofs.lemmas.List.Sums.{sum_by-cons}
use Rattle.std.proofs.lemmas.Option.{same_Some}
use Rattle.read_file_patch.specs.declared.FilePatch.{FilePatch}
use Rattle.read_file_patch.specs.PlainPatch.{row_count}
use Rattle.patch_set.specs.SetView.{SetView, IsWhole, hunks_in, patch_at}
use Rattle.patch_set.specs.Spans.{ArePlaced}

within : (text : List ℕ) (start before : ℕ) (ps : List FilePatch) (i : ℕ) (p : FilePatch) → ArePlaced text start before ps → slice_get ps i ≡ Some p
    → p.first_verdict + row_count p.change ≤ before + hunks_in ps
within text start before [] i p at is = absurd cc
within text start before (q ∷ ps) zero p at is =
    let all : hunks_in (q ∷ ps) ≡ row_count q.change + hunks_in ps = sum_by-cons (λ x. row_count x.change) q ps in
    subst (λ x. x.first_verdict + row_count x.change ≤ before + hunks_in (q ∷ ps)) (same_Some q p is) (omega (arith, all, at.0.first))
within text start before (q ∷ ps) (suc i) p at is =
    let all : hunks_in (q ∷ ps) ≡ row_count q.change + hunks_in ps = sum_by-cons (λ x. row_count x.change) q ps in
    omega (arith, all, within text q.span.end (before + row_count q.change) ps i p at.1 is)

-- they are among those of the set
pub verdicts-within : (v : SetView) (i : ℕ) (p : FilePatch) → IsWhole v → patch_at v i ≡ Some p → p.first_verdict + row_count p.change ≤ hunks_in v.patches
verdicts-within v i p whole is = omega (arith, within v.text 0 0 v.patches i p whole.placed is)
