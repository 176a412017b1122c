use Rattle.read_file_patch.specs.PlainPatch.{patch_of}
use Rattle.read_patch_text.specs.Digests.{digested_step}
use Rattle.read_patch_text.specs.Patches.{patch_at}
use Rattle.read_patch_text.specs.Reading.{ahead_of}
use Rattle.read_patch_text.specs.Regions.{region_of}
use Rattle.std.proofs.lemmas.Result.{err_from_is_err_and}
use Rattle.std.proofs.lemmas.List.{map_push}
use Rattle.read_patch_text.proofs.DigestLemmas.{region-comes}
use Rattle.read_patch_text.proofs.Kept.{digest-is, digests-push}
use Rattle.read_patch_text.proofs.Taking.{fails-before}
use Rattle.read_patch_text.proofs.digest.DigestsPatchWalk.take.Goals as goal

pub returns-clause-taken : goal.returns-clause-taken
returns-clause-taken c =
    let text = c.args.text.now in
    let here = c.args.here in
    let read = c.in_ok-patch.ensures in
    let p = c.in_ok-patch.patch in
    let olds = c.in_ok-patch.olds in
    let next = c.in_ok-patch.behind in
    let before = c.args.self.now in
    let d = digest-is text c.args.header (patch_of text p) olds.items (ahead_of text next) read.exact in
    record {
      patch = d.patch;
      read = d.read;
      has = λ ways front opens has. rw (c.in_ok-push.ensures.items, c.in_ok-push-2.ensures.items, map_push (λ os. os.items) before.olds.items olds) (digests-push ways text front here.at here.number next.at next.number before.patches.items _ p olds.items c.args.header d read.is
          (region-comes ways text here.at here.number next.at next.number c.args.header (patch_of text p) olds.items (region_of p) opens read.progress.within read.exact read.region) read.behind read.progress.within has);
    }

pub returns-in_err-patch-clause-fails : goal.returns-in_err-patch-clause-fails
returns-in_err-patch-clause-fails c =
    let p = err_from_is_err_and c.from_residual.result c.from_residual.ensures.1 in
    rw (p.1, p.2) (fails-before c.in_err-patch.field-0.0 (patch_at c.args.text.now c.args.header) digested_step c.in_err-patch.ensures.exact)
