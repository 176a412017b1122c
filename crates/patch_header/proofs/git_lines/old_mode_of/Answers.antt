use Rattle.std.proofs.Common.{◌∙◌, ap}
use Rattle.std.specs.Prelude.{codes, slice_range}
use Rattle.patch_header.specs.Region.{LiesIn, row, tail_of, later}
use Rattle.patch_header.proofs.SeenLemmas.{later-lies}
use Rattle.patch_header.proofs.git_lines.old_mode_of.Goals as goal

pub returns-clause-is : goal.returns-clause-is
returns-clause-is c =
    let r = row c.args.number c.args.at (slice_range c.args.text.now c.args.at c.args.end) in
    c.later.ensures
    ∙ ap (λ o. later o c.tail_of-2.result) c.tail_of.ensures.is
    ∙ ap (later (tail_of (codes "old mode ") r)) c.tail_of-2.ensures.is

pub returns-clause-lies : goal.returns-clause-lies
returns-clause-lies c = later-lies (LiesIn c.args.text.now) _ _ _ c.later.ensures c.tail_of.ensures.lies c.tail_of-2.ensures.lies

pub tail_of-requires : goal.tail_of-requires
tail_of-requires c = c.requires

pub tail_of-requires-2 : goal.tail_of-requires-2
tail_of-requires-2 c = c.requires
