use Rattle.packed_pages.proofs.stepping.first_pass.Goals as goal

pub returns-in-None-clause-misses : goal.returns-in-None-clause-misses
returns-in-None-clause-misses c = c.loop-now.invariant.misses

pub returns-then-now-end-clause-misses : goal.returns-then-now-end-clause-misses
returns-then-now-end-clause-misses c = c.loop-now.invariant.misses

pub returns-clause-misses : goal.returns-clause-misses
returns-clause-misses c = c.loop-now.invariant.misses

pub returns-in-None-clause-follows : goal.returns-in-None-clause-follows
returns-in-None-clause-follows c = c.loop-now.invariant.follows

pub returns-then-now-end-clause-follows : goal.returns-then-now-end-clause-follows
returns-then-now-end-clause-follows c = c.loop-now.invariant.follows

pub returns-clause-follows : goal.returns-clause-follows
returns-clause-follows c = c.loop-now.invariant.follows

pub next_on-requires-clause-small : goal.next_on-requires-clause-small
next_on-requires-clause-small c = c.requires.small

pub next_on-requires-clause-whole : goal.next_on-requires-clause-whole
next_on-requires-clause-whole c = c.loop-now.invariant.follows.whole
