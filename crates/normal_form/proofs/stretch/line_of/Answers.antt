use Rattle.std.proofs.Common.{arith, drop}
use Rattle.std.proofs.lemmas.Result.{err_from_is_err_and}
use Rattle.line_list.specs.Lines.{lines}
use Rattle.hunk_core.specs.PlainHunk.{marked_of}
use Rattle.normal_form.proofs.ReaderExits.{met, line_none, line_unmarked, line_whole, line_open, line_refused}
use Rattle.outside.proofs.Exits.{if_ok_none}
use Rattle.normal_form.proofs.stretch.line_of.Goals as goal

pub next_line-requires : goal.next_line-requires
next_line-requires c = c.requires.within

pub marked_line-requires-clause-low : goal.marked_line-requires-clause-low
marked_line-requires-clause-low c = c.in-Some.ensures.low

pub marked_line-requires-clause-high : goal.marked_line-requires-clause-high
marked_line-requires-clause-high c = c.in-Some.ensures.high

pub marked_line-requires-clause-short : goal.marked_line-requires-clause-short
marked_line-requires-clause-short c = c.requires.short

pub returns-in_err-line-clause-place : goal.returns-in_err-line-clause-place
returns-in_err-line-clause-place c = if_ok_none _ _ c.from_residual.result c.from_residual.ensures.1

pub returns-in_err-line-clause-lies : goal.returns-in_err-line-clause-lies
returns-in_err-line-clause-lies c = if_ok_none _ _ c.from_residual.result c.from_residual.ensures.1

pub backslash_end-requires : goal.backslash_end-requires
backslash_end-requires c = c.in-Some.ensures.high

pub returns-in_default-clause-exact : goal.returns-in_default-clause-exact
returns-in_default-clause-exact c = met c.bad.result _ _ _ c.bad.ensures (line_none c.args.side c.args.left c.args.place.number _ c.in_default.ensures.1)

pub returns-in_err-line-clause-exact : goal.returns-in_err-line-clause-exact
returns-in_err-line-clause-exact c =
    let p = err_from_is_err_and c.from_residual.result c.from_residual.ensures.1 in
    rw (p.1, p.2) (line_unmarked c.in_err-line.field-0.0 c.args.side c.args.left c.args.place.number _ _ _ c.in-Some.ensures.first c.in_err-line.ensures.exact)

pub overflow_add-behind : goal.overflow_add-behind
overflow_add-behind c = omega (arith, c.requires.small, c.requires.within, c.requires.short)

pub overflow_add-result : goal.overflow_add-result
overflow_add-result c = omega (arith, c.requires.small, c.requires.within, c.requires.short)

pub without_feed-requires : goal.without_feed-requires
without_feed-requires c = rw c.in_ok-line.ensures.ends c.in_ok-line.ensures.order

pub returns-in-None-clause-place : goal.returns-in-None-clause-place
returns-in-None-clause-place c = (record { short = c.requires.short; within = c.in-Some.ensures.high; small = omega (arith, c.requires.small, c.in-Some.ensures.low) }, c.in-Some.ensures.low)

pub returns-in-None-clause-lies : goal.returns-in-None-clause-lies
returns-in-None-clause-lies c = rw c.in_ok-line.ensures.ends (c.in_ok-line.ensures.order, c.in-Some.ensures.high)

pub returns-in-None-clause-exact : goal.returns-in-None-clause-exact
returns-in-None-clause-exact c = line_whole c.args.side c.args.left c.args.place.number _ _ _ (marked_of c.args.text.now c.in_ok-line.line) c.in-Some.ensures.first c.in_ok-line.ensures.exact c.in-None.ensures.exact

pub returns-in-Some-backslash_end-clause-place : goal.returns-in-Some-backslash_end-clause-place
returns-in-Some-backslash_end-clause-place c = (record { short = c.requires.short; within = c.in-Some-backslash_end.ensures.range.1; small = omega (arith, c.requires.small, c.in-Some.ensures.low, c.in-Some-backslash_end.ensures.range.0) }, omega (arith, c.in-Some.ensures.low, c.in-Some-backslash_end.ensures.range.0))

pub returns-in-Some-backslash_end-clause-lies : goal.returns-in-Some-backslash_end-clause-lies
returns-in-Some-backslash_end-clause-lies c = (c.without_feed.ensures.order, omega (arith, c.without_feed.ensures.end, c.in_ok-line.ensures.ends, c.in-Some.ensures.high))

pub returns-in-Some-backslash_end-clause-exact : goal.returns-in-Some-backslash_end-clause-exact
returns-in-Some-backslash_end-clause-exact c =
    rw (c.without_feed.ensures.unended c.args.text.now (omega (arith, c.in_ok-line.ensures.ends, c.in-Some.ensures.high))) (line_open c.args.side c.args.left c.args.place.number _ _ _ _ (marked_of c.args.text.now c.in_ok-line.line) c.in-Some.ensures.first c.in_ok-line.ensures.exact c.in-Some-backslash_end.ensures.exact (omega arith))

pub returns-in-Some-2-clause-exact : goal.returns-in-Some-2-clause-exact
returns-in-Some-2-clause-exact c =
    met c.bad-in-Some-2.result _ _ _ c.bad-in-Some-2.ensures (line_refused c.args.side c.args.left c.args.place.number _ _ (lines (drop c.in-Some-2.field-0 c.args.text.now)) _ (marked_of c.args.text.now c.in_ok-line.line) c.in-Some.ensures.first c.in_ok-line.ensures.exact c.in-Some-2.ensures.exact (omega arith))
