use Rattle.std.proofs.Common.{◌≡◌, ◌<◌, length, map, Some, List, sym, ap, subst, ◌∙◌, arith, option_map}
use Rattle.std.specs.Prelude.{slice_get}
use Rattle.std.proofs.lemmas.List.{length-map}
use Rattle.std.proofs.lemmas.Option.{slice_get-map}
use Rattle.unified_form.specs.declared.hunk_scan.OldRange.{OldRange}
use Rattle.line_list.proofs.Elements.{found}
use Rattle.filter_choice.specs.Digested.{DigestView}
use Rattle.filter_choice.proofs.Digests.{digests-count}
use Rattle.filter_choice.proofs.digest.HunkIndex.olds.Goals as goal

pub index-requires : goal.index-requires
index-requires c =
    let s = c.self.inside in
    let lt = subst (λ (v : DigestView). c.args.patch < length v.patches) (sym c.self.view_is) c.requires in
    omega (arith, lt, digests-count s.text.items s.patches.items (map (λ os. os.items) s.olds.items) c.self.invariant, length-map s.olds.items (λ os. os.items))

pub returns : goal.returns
returns c =
    let s = c.self.inside in
    let own = c.index.result.now in
    let lt = subst (λ (v : DigestView). c.args.patch < length v.patches) (sym c.self.view_is) c.requires in
    let there = found s.olds.items c.args.patch own (omega (arith, lt, digests-count s.text.items s.patches.items (map (λ os. os.items) s.olds.items) c.self.invariant, length-map s.olds.items (λ os. os.items))) c.index.ensures in
    subst (λ (v : DigestView). slice_get v.olds c.args.patch ≡ Some c.deref.result.now) c.self.view_is
    (slice_get-map (λ os. os.items) s.olds.items c.args.patch ∙ ap (option_map (λ os. os.items)) there ∙ ap (λ (l : List OldRange). Some l) (sym c.deref.ensures.value))
