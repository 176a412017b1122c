use Rattle.packed_pages.proofs.stepping.reach_in.Goals as goal

pub reach_from-requires-clause-whole : goal.reach_from-requires-clause-whole
reach_from-requires-clause-whole c = c.requires.whole c.in-Some.place c.in-Some.is
