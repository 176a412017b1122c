use Rattle.std.proofs.Common.{◌≡◌, get_or, subst, ◌<◌, length, sym, List}
use Rattle.line_list.proofs.Elements.{found}
use Rattle.filter_choice.proofs.Placed.{placed-at}
use Rattle.read_file_patch.specs.declared.FilePatch.{FilePatch}
use Rattle.read_file_patch.specs.Absent.{IsLawfulPatch}
use Rattle.filter_choice.proofs.set.patch_at.Goals as goal

there : (c : goal.After-index-patches-patch) → c.index-patches-patch.result ≡ get_or c.args.set.now.patches c.args.patch c.index-patches-patch.result
there c = subst (λ l. c.index-patches-patch.result ≡ get_or l c.args.patch c.index-patches-patch.result) c.patches.ensures.patches c.index-patches-patch.is

pub returns : goal.returns
returns c = record {
  is = found c.args.set.now.patches c.args.patch c.index-patches-patch.result c.requires (there c);
  lawful = (
      let v = c.args.set.now in
      subst (λ (p : FilePatch). IsLawfulPatch v.text p) (sym (there c)) (c.patches.ensures.whole.lawful c.args.patch c.index-patches-patch.result c.requires));
  placed = (
      let v = c.args.set.now in
      let p = c.index-patches-patch.result in
      placed-at v.text 0 0 v.patches c.args.patch p c.patches.ensures.whole.placed
      (found v.patches c.args.patch p c.requires (subst (λ l. p ≡ get_or l c.args.patch p) c.patches.ensures.patches c.index-patches-patch.is)));
}

pub bounds-patches-patch : goal.bounds-patches-patch
bounds-patches-patch c = subst (λ (l : List FilePatch). c.args.patch < length l) (sym c.patches.ensures.patches) c.requires
