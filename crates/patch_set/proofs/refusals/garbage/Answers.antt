use Rattle.std.proofs.Common.{◌≡◌, ℕ, true, false, not, ◌&&◌, if◌then◌else◌, List, [], ◌∷◌, length, map, None, Some, sym, ap, ◌∙◌}
use Rattle.std.specs.Prelude.{◌==◌}
use Rattle.std.proofs.Math.Dec.{eqb-suc-zero}
use Rattle.std.proofs.lemmas.Bool.{false≢true}
use Rattle.read_file_patch.specs.declared.FilePatch.{FilePatch}
use Rattle.read_file_patch.specs.PlainPatch.{patch_of}
use Rattle.patch_set.specs.declared.fault.SetFault.TheVariants as faults
use Rattle.patch_set.specs.Refusals.{garbage}
use Rattle.patch_set.proofs.refusals.garbage.Goals.{else-is_empty-via-then-is_empty+else-not-is_empty, else-is_empty-via-else-is_empty}
use Rattle.patch_set.proofs.refusals.garbage.Goals as goal

only-text : (text : List ℕ) (ps : List FilePatch) → (length ps == 0) ≡ true → (length text == 0) ≡ false → Some faults.Garbage ≡ garbage text (map (patch_of text) ps)
only-text text [] none some = ap (λ v. if not v then Some faults.Garbage else None) (sym some)
only-text text (p ∷ ps) none some = absurd (false≢true (sym (eqb-suc-zero (length ps)) ∙ none))

no-text : (text : List ℕ) (ps : List FilePatch) → (length text == 0) ≡ true → None ≡ garbage text (map (patch_of text) ps)
no-text text [] none = ap (λ v. if not v then Some faults.Garbage else None) (sym none)
no-text text (p ∷ ps) none = ap (λ v. if v && not (length text == 0) then Some faults.Garbage else None) (sym (eqb-suc-zero (length (map (patch_of text) ps))))

some-patch : (text : List ℕ) (ps : List FilePatch) → (length ps == 0) ≡ false → None ≡ garbage text (map (patch_of text) ps)
some-patch text [] some = absurd (false≢true (sym some))
some-patch text (p ∷ ps) some = ap (λ v. if v && not (length text == 0) then Some faults.Garbage else None) (sym (eqb-suc-zero (length (map (patch_of text) ps))))

pub returns-then-not-is_empty : goal.returns-then-not-is_empty
returns-then-not-is_empty c =
    only-text c.args.text.now c.args.patches.now (sym c.is_empty.ensures ∙ c.if-is_empty.true) (sym c.is_empty-then-is_empty.ensures ∙ c.if-not-is_empty.true)

pub returns-else-is_empty : goal.returns-else-is_empty
returns-else-is_empty c = elim c.else-is_empty.branch [
  | else-is_empty-via-then-is_empty+else-not-is_empty w ↦ no-text c.args.text.now c.args.patches.now (sym w.is_empty-then-is_empty.ensures ∙ w.if-not-is_empty.false)
  | else-is_empty-via-else-is_empty w ↦ some-patch c.args.text.now c.args.patches.now (sym c.is_empty.ensures ∙ w.if-is_empty.false)
]
