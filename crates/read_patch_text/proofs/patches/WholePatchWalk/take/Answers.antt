use Rattle.std.proofs.Common.{subst, sym}
use Rattle.read_file_patch.specs.PlainPatch.{patch_of}
use Rattle.patch_header.specs.Steps.{IsFirstOpening}
use Rattle.read_patch_text.proofs.Kept.{whole-push}
use Rattle.read_patch_text.proofs.patches.WholePatchWalk.take.Goals as goal

pub returns-clause-taken : goal.returns-clause-taken
returns-clause-taken c =
    let text = c.args.text.now in
    let here = c.args.here in
    let read = c.in_ok-patch.ensures in
    let p = c.in_ok-patch.patch in
    let next = c.in_ok-patch.behind in
    record {
      patch = patch_of text p;
      read = read.exact;
      has = λ ways front opens has. rw c.in_ok-push.ensures.items (whole-push ways text front here.at here.number here.hunks next.at next.number next.hunks c.args.self.now.patches.items p (subst (IsFirstOpening ways text here.at here.number) (sym read.header) opens) read.is read.behind has);
    }
