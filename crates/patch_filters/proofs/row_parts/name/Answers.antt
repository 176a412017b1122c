use Rattle.patch_filters.proofs.row_parts.name.Goals as goal

pub plain_name-requires : goal.plain_name-requires
plain_name-requires c = c.requires.is.within

pub returns : goal.returns
returns c = c.plain_name.ensures c.args.row.now.row.now c.requires.is.at
