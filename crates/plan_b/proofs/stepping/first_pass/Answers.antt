use Rattle.plan_b.proofs.Reached.{record-within, misses-more}
use Rattle.std.proofs.Common.{◌∙◌, arith}
use Rattle.plan_b.proofs.stepping.first_pass.Goals as goal

pub is_alike-requires : goal.is_alike-requires
is_alike-requires c = record-within c.args.page.now c.args.layout c.loop-layout.now c.loop-layout.at c.requires.layout c.loop-layout.invariant.follows.is c.requires.size

pub loop-layout-preserved : goal.loop-layout-preserved
loop-layout-preserved c =
    let was = c.loop-layout.invariant in
    record {
      follows = record { page_ = c.in-Some.ensures.page_ ∙ was.follows.page_; is = c.in-Some.ensures.is };
      order = omega (arith, was.order);
      before = c.if-now-to.false;
      misses = misses-more c.args.page.now c.args.layout c.args.line.now c.args.k c.loop-layout.now c.loop-layout.at was.follows.is.spot c.loop-layout-test.ensures was.misses;
    }

pub returns-in-None-clause-misses : goal.returns-in-None-clause-misses
returns-in-None-clause-misses c = c.loop-layout.invariant.misses

pub returns-then-now-to-clause-misses : goal.returns-then-now-to-clause-misses
returns-then-now-to-clause-misses c = c.loop-layout.invariant.misses

pub returns-clause-misses : goal.returns-clause-misses
returns-clause-misses c = c.loop-layout.invariant.misses

pub returns-in-None-clause-before : goal.returns-in-None-clause-before
returns-in-None-clause-before c = c.loop-layout.invariant.before

pub returns-then-now-to-clause-before : goal.returns-then-now-to-clause-before
returns-then-now-to-clause-before c = c.loop-layout.invariant.before

pub returns-in-None-clause-order : goal.returns-in-None-clause-order
returns-in-None-clause-order c = c.loop-layout.invariant.order

pub returns-then-now-to-clause-order : goal.returns-then-now-to-clause-order
returns-then-now-to-clause-order c = c.loop-layout.invariant.order

pub next_on-requires-clause-size : goal.next_on-requires-clause-size
next_on-requires-clause-size c = c.requires.size

pub returns-in-None-clause-follows : goal.returns-in-None-clause-follows
returns-in-None-clause-follows c = c.loop-layout.invariant.follows

pub returns-then-now-to-clause-follows : goal.returns-then-now-to-clause-follows
returns-then-now-to-clause-follows c = c.loop-layout.invariant.follows

pub returns-clause-follows : goal.returns-clause-follows
returns-clause-follows c = c.loop-layout.invariant.follows

pub returns-clause-before : goal.returns-clause-before
returns-clause-before c = c.loop-layout.invariant.before

pub returns-clause-order : goal.returns-clause-order
returns-clause-order c = c.loop-layout.invariant.order

pub next_on-requires-clause-layout : goal.next_on-requires-clause-layout
next_on-requires-clause-layout c = c.requires.layout

pub next_on-requires-clause-is : goal.next_on-requires-clause-is
next_on-requires-clause-is c = c.loop-layout.invariant.follows.is
