use Rattle.std.proofs.Common.{arith}
use Rattle.line_list.proofs.FeedLemmas.{first-mark, none-set}
use Rattle.line_list.proofs.feeds.first_mark.Goals as goal

pub returns-then-left-eq0-clause-none : goal.returns-then-left-eq0-clause-none
returns-then-left-eq0-clause-none c = λ is. none-set c.args.marks c.args.passed c.if-left-eq0.true

pub returns-clause-within : goal.returns-clause-within
returns-clause-within c = (first-mark c.args.marks c.args.passed c.ranges.marks.fits (omega (arith, c.if-left-eq0.false))).within

pub returns-clause-set : goal.returns-clause-set
returns-clause-set c = (first-mark c.args.marks c.args.passed c.ranges.marks.fits (omega (arith, c.if-left-eq0.false))).set

pub returns-clause-below : goal.returns-clause-below
returns-clause-below c = (first-mark c.args.marks c.args.passed c.ranges.marks.fits (omega (arith, c.if-left-eq0.false))).below
