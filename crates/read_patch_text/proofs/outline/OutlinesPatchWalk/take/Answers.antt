use Rattle.read_file_patch.specs.PlainPatch.{patch_of}
use Rattle.read_patch_text.specs.Outlines.{outlined_step}
use Rattle.read_patch_text.specs.Patches.{patch_at}
use Rattle.read_patch_text.specs.Reading.{ahead_of}
use Rattle.std.proofs.lemmas.Result.{err_from_is_err_and}
use Rattle.read_patch_text.proofs.Kept.{outline-is, outlines-push}
use Rattle.read_patch_text.proofs.Taking.{fails-before}
use Rattle.read_patch_text.proofs.outline.OutlinesPatchWalk.take.Goals as goal

pub returns-clause-taken : goal.returns-clause-taken
returns-clause-taken c =
    let text = c.args.text.now in
    let here = c.args.here in
    let read = c.in_ok-patch.ensures in
    let p = c.in_ok-patch.patch in
    let next = c.in_ok-patch.behind in
    let o = outline-is text c.args.header (patch_of text p) (ahead_of text next) read.exact in
    record {
      patch = o.patch;
      read = o.read;
      has = λ ways front opens has. rw c.in_ok-push.ensures.items (outlines-push text front here.at next.at c.args.self.now.patches.items p o.patch o.is read.lawful read.behind has);
    }

pub returns-in_err-patch-clause-fails : goal.returns-in_err-patch-clause-fails
returns-in_err-patch-clause-fails c =
    let p = err_from_is_err_and c.from_residual.result c.from_residual.ensures.1 in
    rw (p.1, p.2) (fails-before c.in_err-patch.field-0.0 (patch_at c.args.text.now c.args.header) outlined_step c.in_err-patch.ensures.exact)
