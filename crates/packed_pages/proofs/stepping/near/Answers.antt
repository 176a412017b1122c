use Rattle.std.proofs.Common.{arith}
use Rattle.packed_pages.proofs.Steps.{near-self, near-next}
use Rattle.packed_pages.proofs.stepping.near.Goals as goal

pub next_on-requires-clause-whole : goal.next_on-requires-clause-whole
next_on-requires-clause-whole c = c.requires.whole c.in-Some.place c.in-Some.is

pub returns-in-None : goal.returns-in-None
returns-in-None c = tt

pub returns-then-k-place : goal.returns-then-k-place
returns-then-k-place c = near-self c.args.page.now c.args.held c.in-Some.place c.args.k c.in-Some.is (c.requires.whole c.in-Some.place c.in-Some.is) (c.requires.within c.in-Some.place c.in-Some.is) (omega arith)

pub returns : goal.returns
returns c = near-next c.args.page.now c.args.held c.in-Some.place c.args.k c.next_on.result c.in-Some.is (omega arith) c.next_on.ensures.follows c.next_on.ensures.line
