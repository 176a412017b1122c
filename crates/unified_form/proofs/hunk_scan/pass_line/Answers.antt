use Rattle.std.proofs.Common.{sym, arith, drop}
use Rattle.std.specs.Prelude.{slice_range}
use Rattle.std.proofs.lemmas.Result.{err_from_is_err_and}
use Rattle.line_list.specs.Lines.{lines}
use Rattle.hunk_core.specs.PlainHunk.{marked_of}
use Rattle.unified_form.proofs.ReaderExits.{met, place_next, place_second, past_line_none, past_line_unmarked, past_line_full, past_line_whole, past_line_open, past_line_refused}
use Rattle.outside.proofs.Exits.{if_ok_none}
use Rattle.unified_form.proofs.hunk_scan.pass_line.Goals as goal

pub next_line_by-requires-clause-within : goal.next_line_by-requires-clause-within
next_line_by-requires-clause-within c = c.requires.place.within

pub marked_line-requires-clause-low : goal.marked_line-requires-clause-low
marked_line-requires-clause-low c = c.in-Some.ensures.end.low

pub marked_line-requires-clause-high : goal.marked_line-requires-clause-high
marked_line-requires-clause-high c = c.in-Some.ensures.end.high

pub marked_line-requires-clause-short : goal.marked_line-requires-clause-short
marked_line-requires-clause-short c = c.requires.place.short

pub returns-in_err-line-clause-place : goal.returns-in_err-line-clause-place
returns-in_err-line-clause-place c = if_ok_none _ _ c.from_residual.result c.from_residual.ensures.1

pub returns-in_err-line-clause-less : goal.returns-in_err-line-clause-less
returns-in_err-line-clause-less c = if_ok_none _ _ c.from_residual.result c.from_residual.ensures.1

pub returns-in_err-left-clause-place : goal.returns-in_err-left-clause-place
returns-in_err-left-clause-place c = if_ok_none _ _ c.from_residual-in_err-left.result c.from_residual-in_err-left.ensures.1

pub returns-in_err-left-clause-less : goal.returns-in_err-left-clause-less
returns-in_err-left-clause-less c = if_ok_none _ _ c.from_residual-in_err-left.result c.from_residual-in_err-left.ensures.1

pub backslash_end-requires : goal.backslash_end-requires
backslash_end-requires c = c.in-Some.ensures.end.high

pub next_line_by-requires-clause-feeds : goal.next_line_by-requires-clause-feeds
next_line_by-requires-clause-feeds c = c.requires.feeds

pub returns-in_default-clause-feeds : goal.returns-in_default-clause-feeds
returns-in_default-clause-feeds c = c.next_line_by.ensures.feeds

pub returns-in_default-clause-exact : goal.returns-in_default-clause-exact
returns-in_default-clause-exact c = met c.bad.result _ _ _ c.bad.ensures (past_line_none c.args.left c.args.place.number _ c.in_default.ensures.end.1)

pub returns-in_err-line-clause-feeds : goal.returns-in_err-line-clause-feeds
returns-in_err-line-clause-feeds c = c.next_line_by.ensures.feeds

pub returns-in_err-line-clause-exact : goal.returns-in_err-line-clause-exact
returns-in_err-line-clause-exact c =
    let p = err_from_is_err_and c.from_residual.result c.from_residual.ensures.1 in
    rw (p.1, p.2) (past_line_unmarked c.in_err-line.field-0.0 c.args.left c.args.place.number _ _ _ c.in-Some.ensures.end.first c.in_err-line.ensures.exact)

pub returns-in_err-left-clause-feeds : goal.returns-in_err-left-clause-feeds
returns-in_err-left-clause-feeds c = c.next_line_by.ensures.feeds

pub returns-in_err-left-clause-exact : goal.returns-in_err-left-clause-exact
returns-in_err-left-clause-exact c =
    let p = err_from_is_err_and c.from_residual-in_err-left.result c.from_residual-in_err-left.ensures.1 in
    rw (p.1, p.2) (past_line_full c.in_err-left.field-0.0 c.args.left c.args.place.number _ _ _ (marked_of c.args.text.now c.in_ok-line.line) c.in-Some.ensures.end.first c.in_ok-line.ensures.exact c.in_err-left.ensures.exact)

pub overflow_add-result : goal.overflow_add-result
overflow_add-result c = omega (arith, c.requires.place.small, c.requires.place.within, c.requires.place.short)

pub overflow_add-number : goal.overflow_add-number
overflow_add-number c = omega (arith, c.requires.place.small, c.requires.place.within, c.requires.place.short)

pub overflow_add-result-in-Some-backslash_end : goal.overflow_add-result-in-Some-backslash_end
overflow_add-result-in-Some-backslash_end c = omega (arith, c.requires.place.small, c.requires.place.within, c.requires.place.short)

pub returns-in-None-clause-feeds : goal.returns-in-None-clause-feeds
returns-in-None-clause-feeds c = c.next_line_by.ensures.feeds

pub returns-in-None-clause-place : goal.returns-in-None-clause-place
returns-in-None-clause-place c = (place_next c.args.text.now c.args.place c.in-Some.end c.requires.place c.in-Some.ensures.end.low c.in-Some.ensures.end.high, c.in-Some.ensures.end.low)

pub returns-in-None-clause-less : goal.returns-in-None-clause-less
returns-in-None-clause-less c = c.in_ok-left.ensures.less

pub returns-in-None-clause-exact : goal.returns-in-None-clause-exact
returns-in-None-clause-exact c =
    past_line_whole c.args.left c.args.place.number _ _ (marked_of c.args.text.now c.in_ok-line.line) c.in_ok-left.left (record { line = slice_range c.args.text.now c.args.place.at c.in-Some.end; parts = c.in-Some.ensures.end.first; marks = c.in_ok-line.ensures.exact; room = c.in_ok-left.ensures.exact }) c.in-None.ensures.exact

pub returns-in-Some-backslash_end-clause-feeds : goal.returns-in-Some-backslash_end-clause-feeds
returns-in-Some-backslash_end-clause-feeds c = c.next_line_by.ensures.feeds

pub returns-in-Some-backslash_end-clause-place : goal.returns-in-Some-backslash_end-clause-place
returns-in-Some-backslash_end-clause-place c = place_second c.args.text.now c.args.place c.in-Some.end c.in-Some-backslash_end.at c.requires.place c.in-Some.ensures.end.low c.in-Some-backslash_end.ensures.range.0 c.in-Some-backslash_end.ensures.range.1

pub returns-in-Some-backslash_end-clause-less : goal.returns-in-Some-backslash_end-clause-less
returns-in-Some-backslash_end-clause-less c = c.in_ok-left.ensures.less

pub returns-in-Some-backslash_end-clause-exact : goal.returns-in-Some-backslash_end-clause-exact
returns-in-Some-backslash_end-clause-exact c =
    past_line_open c.args.left c.args.place.number _ _ _ (marked_of c.args.text.now c.in_ok-line.line) c.in_ok-left.left (record { line = slice_range c.args.text.now c.args.place.at c.in-Some.end; parts = c.in-Some.ensures.end.first; marks = c.in_ok-line.ensures.exact; room = c.in_ok-left.ensures.exact }) c.in-Some-backslash_end.ensures.exact (sym c.if-is_last.ensures)

pub returns-in-Some-2-clause-feeds : goal.returns-in-Some-2-clause-feeds
returns-in-Some-2-clause-feeds c = c.next_line_by.ensures.feeds

pub returns-in-Some-2-clause-exact : goal.returns-in-Some-2-clause-exact
returns-in-Some-2-clause-exact c =
    met c.bad-in-Some-2.result _ _ _ c.bad-in-Some-2.ensures (past_line_refused c.args.left c.args.place.number _ _ (lines (drop c.in-Some-2.field-0 c.args.text.now)) (marked_of c.args.text.now c.in_ok-line.line) c.in_ok-left.left (record { line = slice_range c.args.text.now c.args.place.at c.in-Some.end; parts = c.in-Some.ensures.end.first; marks = c.in_ok-line.ensures.exact; room = c.in_ok-left.ensures.exact }) c.in-Some-2.ensures.exact (sym c.if-is_last.ensures))
