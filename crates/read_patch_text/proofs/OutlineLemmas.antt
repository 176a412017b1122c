-- A change without its hunks, and what reading gives of it.
use Rattle.std.proofs.Common.{◌≡◌, ℕ, List, Ok, refl}
use Rattle.hunk_core.specs.declared.fault.FormFault.{FormFault}
use Rattle.hunk_core.specs.declared.fault.FormFault.TheVariants as errors
use Rattle.hunk_core.specs.declared.Form.TheVariants.{Unified}
use Rattle.hunk_core.specs.PlainHunk.{PlainHunk}
use Rattle.hunk_core.specs.Reading.{Fails, Ahead}
use Rattle.unified_form.specs.Hunks.{reading}
use Rattle.read_file_patch.specs.PlainPatch.{hunks}
use Rattle.read_patch_text.specs.Patches.{change_at}
use Rattle.read_patch_text.specs.Outlines.{only_hunk, change_outlined}

pub unified-fails : (e : FormFault) (number : ℕ) (rest : List (List ℕ)) → Fails e (reading number rest) → Fails e (change_outlined Unified number rest)
unfolding change_at
unified-fails errors.Memory number rest h = tt
unified-fails (errors.Malformed line kind) number rest h = rw h refl

pub unified-reads : (number : ℕ) (rest : List (List ℕ)) (hs : List PlainHunk) (p : Ahead) → reading number rest ≡ Ok (hs, p) → change_outlined Unified number rest ≡ Ok (only_hunk (hunks hs), p)
unfolding change_at
unified-reads number rest hs p h = rw h refl
