use Rattle.std.proofs.Common.{ap, map}
use Rattle.std.proofs.lemmas.Result.{err_from_is_err_and}
use Rattle.read_file_patch.specs.PlainPatch.{patch_of}
use Rattle.read_patch_text.specs.Digests.{digest, ranges_in}
use Rattle.read_patch_text.specs.Patches.{patches_of}
use Rattle.read_patch_text.proofs.Kept.{digests-all, digests-none, regions-all}
use Rattle.read_patch_text.proofs.Passed.{count-fits}
use Rattle.read_patch_text.proofs.Taking.{fails-after}
use Rattle.read_patch_text.proofs.digest.read_digests.Goals as goal

pub returns : goal.returns
returns c =
    let text = c.args.text.now in
    let ways = c.args.ways in
    let kept = c.walk.new.kept in
    let taken = c.in_ok-walk.ensures.taken in
    let has = taken.has (digests-none ways text _ _ c.new.ensures.items (ap (map (λ os. os.items)) c.new-2.ensures.items)) in
    record {
      exact = digests-all ways text taken.patches (map (patch_of text) kept.patches.items) (map (λ os. os.items) kept.olds.items) taken.read has.are has.ranges;
      regions = regions-all ways text kept.patches.items c.in_ok-walk.field-0.at c.in_ok-walk.field-0.number taken.ends has.regions;
      are = has.digests;
      count = count-fits _ c.in_ok-walk.field-0.at _ has.count taken.progress.within c.requires;
    }

pub returns-in_err-walk : goal.returns-in_err-walk
returns-in_err-walk c =
    let p = err_from_is_err_and c.from_residual.result c.from_residual.ensures.1 in
    rw (p.1, p.2) (record { exact = fails-after c.in_err-walk.field-0.0 (patches_of c.args.ways c.args.text.now) (λ ps. (map digest ps, map ranges_in ps)) c.in_err-walk.ensures.fails; regions = tt; are = tt; count = tt })
