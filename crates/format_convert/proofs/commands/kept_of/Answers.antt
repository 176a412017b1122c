use Rattle.format_convert.proofs.Rows.{AreMade, are-made}
use Rattle.format_convert.proofs.commands.kept_of.Goals as goal

pub returns-clause-kept : goal.returns-clause-kept
returns-clause-kept c =
    let row = c.patch_at.result.now in
    let m : AreMade c.args.set.now.text c.patch_at.result.now.change c.args.hunks.now = are-made c.args.set.now.text row.change c.args.hunks.now (c.requires.hunks row c.patch_at.ensures.is) c.patch_at.ensures.lawful.change in
    record { at = c.patch_at.ensures.is; lawful = m.lawful; change = m.change; count = m.count }

pub patch_at-requires : goal.patch_at-requires
patch_at-requires c = c.requires.within
