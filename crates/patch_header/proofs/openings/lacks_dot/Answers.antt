use Rattle.patch_header.proofs.openings.lacks_dot.Goals as goal

pub has_dot-requires : goal.has_dot-requires
has_dot-requires c = c.requires.line.high
