use Rattle.std.proofs.Common.{map}
use Rattle.std.proofs.lemmas.Result.{err_from_is_err_and}
use Rattle.read_file_patch.specs.PlainPatch.{patch_of}
use Rattle.read_patch_text.specs.Outlines.{outline}
use Rattle.read_patch_text.specs.Patches.{patches_of}
use Rattle.read_patch_text.proofs.Kept.{outlines-all, outlines-none}
use Rattle.read_patch_text.proofs.Passed.{count-fits}
use Rattle.read_patch_text.proofs.Taking.{fails-after}
use Rattle.read_patch_text.proofs.outline.read_outlines.Goals as goal

pub returns : goal.returns
returns c =
    let text = c.args.text.now in
    let taken = c.in_ok-walk.ensures.taken in
    let has = taken.has (outlines-none text c.new.result.items c.new.ensures.items) in
    record {
      exact = outlines-all c.args.ways text taken.patches (map (patch_of text) c.walk.new.kept.patches.items) taken.read has.are;
      lawful = has.lawful;
      count = count-fits _ c.in_ok-walk.field-0.at _ has.count taken.progress.within c.requires;
    }

pub returns-in_err-walk : goal.returns-in_err-walk
returns-in_err-walk c =
    let p = err_from_is_err_and c.from_residual.result c.from_residual.ensures.1 in
    rw (p.1, p.2) (record { exact = fails-after c.in_err-walk.field-0.0 (patches_of c.args.ways c.args.text.now) (map outline) c.in_err-walk.ensures.fails; lawful = tt; count = tt })
