use Rattle.patch_header.proofs.openings.stops_bare.Goals as goal

pub is_passed_over-requires-clause-short : goal.is_passed_over-requires-clause-short
is_passed_over-requires-clause-short c = c.requires.short

pub is_passed_over-requires-clause-line : goal.is_passed_over-requires-clause-line
is_passed_over-requires-clause-line c = c.requires.line

pub is_bare-requires-clause-short : goal.is_bare-requires-clause-short
is_bare-requires-clause-short c = c.requires.short

pub is_bare-requires-clause-line : goal.is_bare-requires-clause-line
is_bare-requires-clause-line c = c.requires.line
