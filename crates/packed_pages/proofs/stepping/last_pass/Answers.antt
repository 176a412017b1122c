use Rattle.std.proofs.Common.{◌≡◌, ◌+◌, subst, sym, arith}
use Rattle.packed_pages.specs.Steps.{IfLast}
use Rattle.packed_pages.proofs.Steps.{follows-more}
use Rattle.packed_pages.proofs.stepping.last_pass.Goals as goal

pub loop-now-preserved : goal.loop-now-preserved
loop-now-preserved c =
    let follows = follows-more c.args.page.now c.args.start c.loop-now.now c.in-Some.next c.loop-now.invariant.follows c.in-Some.ensures.follows in
    let line : c.in-Some.next.line ≡ c.loop-now.now.line + 1 = c.in-Some.ensures.line in
    record {
      follows = follows;
      before = omega arith;
      last = c.later-alike-in-loop-now.ensures c.args.start follows (subst (λ n. IfLast c.args.page.now c.args.start c.args.line.now n c.loop-now.alike) (sym line) c.loop-now.invariant.last);
    }

pub returns-in-None-clause-follows : goal.returns-in-None-clause-follows
returns-in-None-clause-follows c = c.loop-now.invariant.follows

pub returns-clause-follows : goal.returns-clause-follows
returns-clause-follows c = c.loop-now.invariant.follows

pub returns-in-None-clause-last : goal.returns-in-None-clause-last
returns-in-None-clause-last c = c.loop-now.invariant.last

pub returns-clause-last : goal.returns-clause-last
returns-clause-last c = c.loop-now.invariant.last

pub next_on-requires-clause-small : goal.next_on-requires-clause-small
next_on-requires-clause-small c = c.requires.small

pub next_on-requires-clause-whole : goal.next_on-requires-clause-whole
next_on-requires-clause-whole c = c.loop-now.invariant.follows.whole
