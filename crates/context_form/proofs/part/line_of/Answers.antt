use Rattle.outside.proofs.Exits.{if_ok_none}
use Rattle.std.proofs.Common.{arith}
use Rattle.hunk_core.specs.PlainHunk.{marked_of}
use Rattle.context_form.proofs.StepLemmas.{line-unwanted, line-cut, line-misplaced, line-read}
use Rattle.context_form.proofs.part.line_of.Goals as goal

pub next_line-requires : goal.next_line-requires
next_line-requires c = c.requires.within

pub marked_line-requires-clause-low : goal.marked_line-requires-clause-low
marked_line-requires-clause-low c = c.in-Some.ensures.low

pub marked_line-requires-clause-high : goal.marked_line-requires-clause-high
marked_line-requires-clause-high c = c.in-Some.ensures.high

pub marked_line-requires-clause-short : goal.marked_line-requires-clause-short
marked_line-requires-clause-short c = c.requires.short

pub returns-in_err-line-clause-place : goal.returns-in_err-line-clause-place
returns-in_err-line-clause-place c = if_ok_none _ _ c.from_residual.result c.from_residual.ensures.1

pub returns-in_err-line-clause-lies : goal.returns-in_err-line-clause-lies
returns-in_err-line-clause-lies c = if_ok_none _ _ c.from_residual.result c.from_residual.ensures.1

pub returns-in_err-line-clause-some : goal.returns-in_err-line-clause-some
returns-in_err-line-clause-some c = if_ok_none _ _ c.from_residual.result c.from_residual.ensures.1

pub backslash_end-requires : goal.backslash_end-requires
backslash_end-requires c = c.in-Some.ensures.high

pub returns-then-left-eq0-clause-exact : goal.returns-then-left-eq0-clause-exact
returns-then-left-eq0-clause-exact c = rw c.bad-then-left-eq0.ensures (line-unwanted c.args.side c.args.left c.args.place.number _ _ _ (marked_of c.args.text.now c.in_ok-line.line, c.in_ok-line.is_change) c.in-Some.ensures.first c.in_ok-line.ensures.exact c.if-left-eq0.true)

pub returns-in-None-clause-exact : goal.returns-in-None-clause-exact
returns-in-None-clause-exact c = line-read c.args.side c.args.left c.args.place.number _ _ _ (marked_of c.args.text.now c.in_ok-line.line, c.in_ok-line.is_change) c.in-Some.ensures.first c.in_ok-line.ensures.exact (omega (arith, c.if-left-eq0.false)) c.in-None.ensures.exact

pub returns-in-Some-backslash_end-clause-exact : goal.returns-in-Some-backslash_end-clause-exact
returns-in-Some-backslash_end-clause-exact c = line-cut c.args.side c.args.left c.args.place.number _ _ _ (marked_of c.args.text.now c.in_ok-line.line, c.in_ok-line.is_change) _ (marked_of c.args.text.now c.without_feed.result) c.in-Some.ensures.first c.in_ok-line.ensures.exact (omega arith) c.in-Some-backslash_end.ensures.exact (c.without_feed.ensures.unended c.args.text.now (omega (arith, c.in_ok-line.ensures.ends, c.in-Some.ensures.high)))

pub returns-in-Some-backslash_end-clause-place : goal.returns-in-Some-backslash_end-clause-place
returns-in-Some-backslash_end-clause-place c = (record { short = c.requires.short; within = c.in-Some-backslash_end.ensures.range.1; small = omega (arith, c.requires.small, c.in-Some.ensures.low, c.in-Some-backslash_end.ensures.range.0) }, omega (arith, c.in-Some.ensures.low, c.in-Some-backslash_end.ensures.range.0))

pub returns-in-Some-backslash_end-clause-some : goal.returns-in-Some-backslash_end-clause-some
returns-in-Some-backslash_end-clause-some c = omega (arith, c.if-left-eq0.false)

pub returns-in-Some-backslash_end-clause-lies : goal.returns-in-Some-backslash_end-clause-lies
returns-in-Some-backslash_end-clause-lies c = (c.without_feed.ensures.order, omega (arith, c.without_feed.ensures.end, c.in_ok-line.ensures.ends, c.in-Some.ensures.high))

pub returns-in-Some-2-clause-exact : goal.returns-in-Some-2-clause-exact
returns-in-Some-2-clause-exact c = rw c.bad-in-Some-2.ensures (line-misplaced c.args.side c.args.left c.args.place.number _ _ _ (marked_of c.args.text.now c.in_ok-line.line, c.in_ok-line.is_change) _ c.in-Some.ensures.first c.in_ok-line.ensures.exact (omega arith) c.in-Some-2.ensures.exact)
