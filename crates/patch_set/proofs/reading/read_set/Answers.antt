use Rattle.std.proofs.Common.{◌≡◌, Ok, All, subst, ap, map, length, arith}
use Rattle.std.proofs.lemmas.Bool.{le-ltb}
use Rattle.read_file_patch.specs.Absent.{IsLawfulPatch}
use Rattle.read_file_patch.specs.PlainPatch.{patch_of}
use Rattle.patch_options.specs.PlainJob.{plain_options}
use Rattle.read_patch_text.specs.Patches.{patches_of}
use Rattle.read_patch_text.specs.Regions.{region_of, regions_of}
use Rattle.patch_set.specs.Asked.{ways_of}
use Rattle.patch_set.specs.SetView.{Meets, IsRead, IsSetOf}
use Rattle.patch_set.specs.Spans.{ArePlaced}
use Rattle.patch_set.proofs.InTurn.{are-placed}
use Rattle.patch_set.proofs.Completing.{completed-length, long-refusal, read-refusal, is-read}
use Rattle.std.proofs.lemmas.Result.{IfOk-weaker}
use Rattle.patch_set.proofs.reading.read_set.Goals as goal

read : (c : goal.After-set_of) → patches_of (ways_of (plain_options c.args.options.now)) c.in-Ok.text.items ≡ Ok (map (patch_of c.in-Ok.text.items) c.in_ok-patches.patches.items)
read c =
    subst (λ w. patches_of w c.in-Ok.text.items ≡ Ok (map (patch_of c.in-Ok.text.items) c.in_ok-patches.patches.items)) c.ways_of.ensures
    (subst (λ t. patches_of c.ways_of.result t ≡ Ok (map (patch_of t) c.in_ok-patches.patches.items)) c.deref.ensures.value c.in_ok-patches.ensures.exact)

pub read_patches-requires : goal.read_patches-requires
read_patches-requires c = omega (arith, completed-length c.args.text.items, ap length c.deref.ensures.value, ap length c.in-Ok.ensures.whole, c.in-Ok.ensures.short)

pub returns : goal.returns
returns c = record {
  read = (
      let o = plain_options c.args.options.now in
      let text = c.in-Ok.text.items in
      let ps = map (patch_of text) c.in_ok-patches.patches.items in
      IfOk-weaker c.set_of.result (IsSetOf o text ps) (IsRead o c.args.text.items) (is-read o c.args.text.items text ps c.in-Ok.ensures.whole (read c)) c.set_of.ensures.set);
  fresh = c.set_of.ensures.fresh;
  whole = c.set_of.ensures.whole;
  marks = c.set_of.ensures.marks;
  refused = (
      let text = c.in-Ok.text.items in
      let o = plain_options c.args.options.now in
      let ps = map (patch_of text) c.in_ok-patches.patches.items in
      subst (λ r. Meets r c.set_of.result)
      (read-refusal o c.args.text.items text ps (le-ltb 268435456 (length c.args.text.items) c.in-Ok.ensures.short) c.in-Ok.ensures.whole (read c)) c.set_of.ensures.refused);
  memory = λ _. c.in-Ok.ensures.short;
}

pub returns-in-Err-clause-refused : goal.returns-in-Err-clause-refused
returns-in-Err-clause-refused c = long-refusal (plain_options c.args.options.now) c.args.text.items c.in-Err.fault c.in-Err.ensures.refused

pub set_of-requires-clause-whole : goal.set_of-requires-clause-whole
set_of-requires-clause-whole c =
    let ps = c.in_ok-patches.patches.items in
    record {
      lawful = subst (λ t. All (IsLawfulPatch t) c.in_ok-patches.patches.items) c.deref.ensures.value c.in_ok-patches.ensures.lawful;
      regions = subst (λ w. map region_of ps ≡ regions_of w c.in-Ok.text.items) c.ways_of.ensures
          (subst (λ t. map region_of ps ≡ regions_of c.ways_of.result t) c.deref.ensures.value c.in_ok-patches.ensures.regions);
      placed = subst (λ t. ArePlaced t 0 0 c.in_ok-patches.patches.items) c.deref.ensures.value (are-placed _ _ _ c.in_ok-patches.ensures.are);
      count = c.in_ok-patches.ensures.count;
      hunks = c.in_ok-patches.ensures.hunks;
    }
