use Rattle.std.proofs.Common.{◌≤◌, arith}
use Rattle.plan_b.proofs.stepping.near.Goals as goal

pub next_on-requires-clause-is : goal.next_on-requires-clause-is
next_on-requires-clause-is c = c.requires.is c.in-Some.j c.in-Some.is

pub spot_before-requires-clause-is : goal.spot_before-requires-clause-is
spot_before-requires-clause-is c = c.requires.is c.in-Some.j c.in-Some.is

pub returns-in-None : goal.returns-in-None
returns-in-None c = tt

pub overflow_sub-j : goal.overflow_sub-j
overflow_sub-j c =
    let low : 1 ≤ c.in-Some.j = (c.requires.is c.in-Some.j c.in-Some.is).low in
    omega arith
