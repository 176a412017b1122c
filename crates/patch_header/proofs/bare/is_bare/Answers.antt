use Rattle.patch_header.proofs.bare.is_bare.Goals as goal

pub stands_alone-requires-clause-short : goal.stands_alone-requires-clause-short
stands_alone-requires-clause-short c = c.requires.short

pub stands_alone-requires-clause-within : goal.stands_alone-requires-clause-within
stands_alone-requires-clause-within c = c.requires.line.high
