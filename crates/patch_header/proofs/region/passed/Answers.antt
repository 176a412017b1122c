use Rattle.std.proofs.Common.{slice_range, ◌∙◌, ap}
use Rattle.patch_header.specs.Region.{row, later, LiesIn}
use Rattle.patch_header.proofs.SeenLemmas.{later-lies, seen-push, seen-made}
use Rattle.patch_header.proofs.region.passed.Goals as goal

pub returns-clause-lies : goal.returns-clause-lies
returns-clause-lies c = record {
  minus = later-lies (LiesIn c.args.text.now) c.args.seen.minus _ _ c.later.ensures c.requires.lies.minus c.tail_of.ensures.lies;
  plus = later-lies (LiesIn c.args.text.now) c.args.seen.plus _ _ c.later-2.ensures c.requires.lies.plus c.tail_of-2.ensures.lies;
  stars = later-lies (LiesIn c.args.text.now) c.args.seen.stars _ _ c.later-3.ensures c.requires.lies.stars c.tail_of-3.ensures.lies;
  index = later-lies (LiesIn c.args.text.now) c.args.seen.index _ _ c.later-4.ensures c.requires.lies.index c.tail_of-4.ensures.lies;
  prereq = later-lies (LiesIn c.args.text.now) c.args.seen.prereq _ _ c.later-5.ensures c.requires.lies.prereq c.tail_of-5.ensures.lies;
  git = later-lies (LiesIn c.args.text.now) c.args.seen.git _ _ c.later-6.ensures c.requires.lies.git c.tail_of-6.ensures.lies;
}

pub returns-clause-is : goal.returns-clause-is
returns-clause-is c = λ rs is.
    let seen = c.args.seen in
    let line = row c.args.number c.args.at (slice_range c.args.text.now c.args.at c.args.end) in
    seen-made seen line _
    (c.later.ensures ∙ ap (later seen.minus) c.tail_of.ensures.is)
    (c.later-2.ensures ∙ ap (later seen.plus) c.tail_of-2.ensures.is)
    (c.later-3.ensures ∙ ap (later seen.stars) c.tail_of-3.ensures.is)
    (c.later-4.ensures ∙ ap (later seen.index) c.tail_of-4.ensures.is)
    (c.later-5.ensures ∙ ap (later seen.prereq) c.tail_of-5.ensures.is)
    (c.later-6.ensures ∙ ap (later seen.git) c.tail_of-6.ensures.is)
    ∙ seen-push seen rs line is

pub tail_of-requires : goal.tail_of-requires
tail_of-requires c = c.requires.line

pub tail_of-requires-2 : goal.tail_of-requires-2
tail_of-requires-2 c = c.requires.line

pub tail_of-requires-3 : goal.tail_of-requires-3
tail_of-requires-3 c = c.requires.line

pub tail_of-requires-4 : goal.tail_of-requires-4
tail_of-requires-4 c = c.requires.line

pub tail_of-requires-5 : goal.tail_of-requires-5
tail_of-requires-5 c = c.requires.line

pub tail_of-requires-6 : goal.tail_of-requires-6
tail_of-requires-6 c = c.requires.line
