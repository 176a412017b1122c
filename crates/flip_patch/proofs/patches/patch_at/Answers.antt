use Rattle.std.proofs.Common.{◌≡◌, get_or, subst, ◌<◌, List, length, refl, sym, ap, ◌∙◌}
use Rattle.line_list.proofs.Elements.{found}
use Rattle.flip_patch.proofs.Placed.{placed-at, patch-fits}
use Rattle.std.proofs.lemmas.Option.{slice_get_read}
use Rattle.read_file_patch.specs.Absent.{IsLawfulPatch}
use Rattle.read_file_patch.specs.declared.FilePatch.{FilePatch}
use Rattle.flip_patch.proofs.patches.patch_at.Goals as goal

pub returns-clause-placed : goal.returns-clause-placed
returns-clause-placed c =
    let v = c.args.set.now in
    let p = c.index-patches-patch.result in
    placed-at v.text 0 0 v.patches c.args.patch p c.patches.ensures.whole.placed
    (found v.patches c.args.patch p c.requires (subst (λ l. p ≡ get_or l c.args.patch p) c.patches.ensures.patches c.index-patches-patch.is))

pub returns-clause-is : goal.returns-clause-is
returns-clause-is c = slice_get_read c.args.set.now.patches (length c.args.set.now.patches) c.args.patch c.index-patches-patch.result refl c.requires (c.index-patches-patch.is ∙ ap (λ (ps : List FilePatch). get_or ps c.args.patch c.index-patches-patch.result) c.patches.ensures.patches)

pub returns-clause-lawful : goal.returns-clause-lawful
returns-clause-lawful c = subst (IsLawfulPatch c.args.set.now.text) (sym (c.index-patches-patch.is ∙ ap (λ (ps : List FilePatch). get_or ps c.args.patch c.index-patches-patch.result) c.patches.ensures.patches)) (c.patches.ensures.whole.lawful c.args.patch c.index-patches-patch.result c.requires)

pub bounds-patches-patch : goal.bounds-patches-patch
bounds-patches-patch c = subst (λ (ps : List FilePatch). c.args.patch < length ps) (sym c.patches.ensures.patches) c.requires

pub offset_bounds-patches-patch : goal.offset_bounds-patches-patch
offset_bounds-patches-patch c = patch-fits c.args.patch _ c.requires c.patches.ensures.whole.count
