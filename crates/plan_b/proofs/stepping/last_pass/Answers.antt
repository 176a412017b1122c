use Rattle.plan_b.proofs.Reached.{record-within, misses-back}
use Rattle.std.proofs.Common.{◌∙◌, ◌+◌, arith}
use Rattle.plan_b.proofs.stepping.last_pass.Goals as goal

pub is_alike-requires : goal.is_alike-requires
is_alike-requires c = record-within c.args.page.now c.args.layout c.loop-layout.now c.loop-layout.at c.requires.layout c.loop-layout.invariant.follows.is c.requires.size

pub loop-layout-preserved : goal.loop-layout-preserved
loop-layout-preserved c =
    let was = c.loop-layout.invariant in
    record {
      follows = record { page_ = c.in-Some.ensures.page_ ∙ was.follows.page_; is = c.in-Some.ensures.is };
      order = omega (arith, was.order);
      low = omega (arith, c.if-now-from.false);
      misses = misses-back c.args.page.now c.args.layout c.args.line.now c.loop-layout.now (c.args.k + 1) c.loop-layout.at was.follows.is.spot c.loop-layout-test.ensures was.follows.is.low was.misses;
    }

pub returns-in-None-clause-misses : goal.returns-in-None-clause-misses
returns-in-None-clause-misses c = c.loop-layout.invariant.misses

pub returns-then-now-from-clause-misses : goal.returns-then-now-from-clause-misses
returns-then-now-from-clause-misses c = c.loop-layout.invariant.misses

pub returns-clause-misses : goal.returns-clause-misses
returns-clause-misses c = c.loop-layout.invariant.misses

pub spot_before-requires-clause-size : goal.spot_before-requires-clause-size
spot_before-requires-clause-size c = c.requires.size

pub overflow_sub-now : goal.overflow_sub-now
overflow_sub-now c = c.loop-layout.invariant.follows.is.low

pub returns-in-None-clause-follows : goal.returns-in-None-clause-follows
returns-in-None-clause-follows c = c.loop-layout.invariant.follows

pub returns-then-now-from-clause-follows : goal.returns-then-now-from-clause-follows
returns-then-now-from-clause-follows c = c.loop-layout.invariant.follows

pub returns-clause-follows : goal.returns-clause-follows
returns-clause-follows c = c.loop-layout.invariant.follows

pub spot_before-requires-clause-layout : goal.spot_before-requires-clause-layout
spot_before-requires-clause-layout c = c.requires.layout

pub spot_before-requires-clause-is : goal.spot_before-requires-clause-is
spot_before-requires-clause-is c = c.loop-layout.invariant.follows.is
