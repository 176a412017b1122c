-- File patches of a digest, and the old lines of their hunks.
use Rattle.std.proofs.Common.{◌≡◌, suc, ℕ, List, [], ◌∷◌, length, refl, ap}
use Rattle.unified_form.specs.declared.hunk_scan.OldRange.{OldRange}
use Rattle.read_file_patch.specs.declared.FilePatch.{FilePatch}
use Rattle.read_patch_text.specs.Digests.{AreDigests}

-- there are as many lists of old lines as file patches
pub digests-count : (text : List ℕ) (ps : List FilePatch) (os : List (List OldRange)) → AreDigests text ps os → length os ≡ length ps
digests-count text [] [] are = refl
digests-count text [] (own ∷ os) are = absurd are
digests-count text (p ∷ ps) [] are = absurd are
digests-count text (p ∷ ps) (own ∷ os) are = ap suc (digests-count text ps os are.1)
