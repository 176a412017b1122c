use Rattle.std.proofs.Common.{ap, ◌∙◌}
use Rattle.packed_pages.specs.Held.{place_of}
use Rattle.packed_pages.proofs.stepping.reach_near.Goals as goal

pub reach_in-requires-clause-whole : goal.reach_in-requires-clause-whole
reach_in-requires-clause-whole c p is = c.requires.whole p (ap (place_of c.args.places.now) c.in-First.is ∙ is)

pub reach_in-requires-in-Second-clause-whole : goal.reach_in-requires-in-Second-clause-whole
reach_in-requires-in-Second-clause-whole c p is = c.requires.whole p (ap (place_of c.args.places.now) c.in-Second.is ∙ is)
