use Rattle.std.proofs.Common.{true, false, arith, drop}
use Rattle.std.specs.Prelude.{slice_range}
use Rattle.std.proofs.lemmas.Result.{err_from_is_err_and}
use Rattle.line_list.specs.Lines.{lines}
use Rattle.hunk_core.specs.Reading.{ahead_of}
use Rattle.unified_form.proofs.ReaderExits.{met, place_next, told, past_hunk_none, past_hunk_unopened, past_hunk_fails, past_hunk_refused, past_hunk_whole}
use Rattle.outside.proofs.Exits.{if_ok_none}
use Rattle.unified_form.proofs.hunk_scan.pass_hunk.Goals as goal

pub next_line_by-requires-clause-within : goal.next_line_by-requires-clause-within
next_line_by-requires-clause-within c = c.requires.place.within

pub overflow_add-number : goal.overflow_add-number
overflow_add-number c = omega (arith, c.requires.place.small, c.requires.place.within, c.requires.place.short)

pub pass_body-requires-clause-place : goal.pass_body-requires-clause-place
pass_body-requires-clause-place c = place_next c.args.text.now c.args.place c.in-Some.end c.requires.place c.in-Some.ensures.end.low c.in-Some.ensures.end.high

pub returns-in_err-next-clause-place : goal.returns-in_err-next-clause-place
returns-in_err-next-clause-place c = if_ok_none _ _ c.from_residual.result c.from_residual.ensures.1

pub backslash_end-requires : goal.backslash_end-requires
backslash_end-requires c = c.in_ok-next.ensures.place.0.within

pub returns-clause-place : goal.returns-clause-place
returns-clause-place c = (c.in_ok-next.ensures.place.0, omega (arith, c.in_ok-next.ensures.place.1, c.in-Some.ensures.end.low))

pub next_line_by-requires-clause-feeds : goal.next_line_by-requires-clause-feeds
next_line_by-requires-clause-feeds c = c.requires.feeds

pub returns-in_default-clause-feeds : goal.returns-in_default-clause-feeds
returns-in_default-clause-feeds c = c.next_line_by.ensures.feeds

pub returns-in_default-clause-exact : goal.returns-in_default-clause-exact
returns-in_default-clause-exact c = met c.bad.result _ _ _ c.bad.ensures (past_hunk_none c.args.least c.args.place.number _ c.in_default.ensures.end.1)

pub returns-in-Err-clause-feeds : goal.returns-in-Err-clause-feeds
returns-in-Err-clause-feeds c = c.next_line_by.ensures.feeds

pub returns-in-Err-clause-exact : goal.returns-in-Err-clause-exact
returns-in-Err-clause-exact c = met c.bad-in-Err.result _ _ _ c.bad-in-Err.ensures (past_hunk_unopened c.args.least c.args.place.number _ _ _ c.in-Err.kind c.in-Some.ensures.end.first c.in-Err.ensures.exact)

pub pass_body-requires-clause-feeds : goal.pass_body-requires-clause-feeds
pass_body-requires-clause-feeds c = c.next_line_by.ensures.feeds

pub returns-in_err-next-clause-feeds : goal.returns-in_err-next-clause-feeds
returns-in_err-next-clause-feeds c = c.pass_body.ensures.feeds

pub returns-in_err-next-clause-exact : goal.returns-in_err-next-clause-exact
returns-in_err-next-clause-exact c =
    let p = err_from_is_err_and c.from_residual.result c.from_residual.ensures.1 in
    rw (p.1, p.2) (past_hunk_fails c.in_err-next.field-0.0 c.args.least c.args.place.number _ _ c.in-Ok.ranges (record { line = slice_range c.args.text.now c.args.place.at c.in-Some.end; parts = c.in-Some.ensures.end.first; opens = c.in-Ok.ensures.exact }) c.in_err-next.ensures.exact)

pub returns-then-is_some-clause-feeds : goal.returns-then-is_some-clause-feeds
returns-then-is_some-clause-feeds c = c.pass_body.ensures.feeds

pub returns-then-is_some-clause-exact : goal.returns-then-is_some-clause-exact
returns-then-is_some-clause-exact c = met c.bad-then-is_some.result _ _ _ c.bad-then-is_some.ensures (past_hunk_refused c.args.least c.args.place.number _ _ c.in-Ok.ranges (ahead_of c.args.text.now c.in_ok-next.next) (record { line = slice_range c.args.text.now c.args.place.at c.in-Some.end; parts = c.in-Some.ensures.end.first; opens = c.in-Ok.ensures.exact }) c.in_ok-next.ensures.exact (told (λ e. lines (drop e c.args.text.now)) c.backslash_end.result _ true c.backslash_end.ensures.exact c.if-is_some.ensures))

pub returns-clause-feeds : goal.returns-clause-feeds
returns-clause-feeds c = c.pass_body.ensures.feeds

pub returns-clause-exact : goal.returns-clause-exact
returns-clause-exact c = past_hunk_whole c.args.least c.args.place.number _ _ c.in-Ok.ranges (ahead_of c.args.text.now c.in_ok-next.next) (record { line = slice_range c.args.text.now c.args.place.at c.in-Some.end; parts = c.in-Some.ensures.end.first; opens = c.in-Ok.ensures.exact }) c.in_ok-next.ensures.exact (told (λ e. lines (drop e c.args.text.now)) c.backslash_end.result _ false c.backslash_end.ensures.exact c.if-is_some.ensures)

pub overflow_cast-old : goal.overflow_cast-old
overflow_cast-old c = omega (arith, c.in-Ok.ensures.fits.old)

pub overflow_cast-old-2 : goal.overflow_cast-old-2
overflow_cast-old-2 c = omega (arith, c.in-Ok.ensures.fits.old)

pub overflow_cast-left : goal.overflow_cast-left
overflow_cast-left c = omega (arith, c.in-Ok.ensures.fits.old)

pub overflow_cast-left-2 : goal.overflow_cast-left-2
overflow_cast-left-2 c = omega (arith, c.in-Ok.ensures.fits.new)
