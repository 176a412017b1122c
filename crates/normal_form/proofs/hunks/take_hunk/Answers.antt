use Rattle.std.proofs.Common.{true, false, arith, drop}
use Rattle.std.specs.Prelude.{slice_range}
use Rattle.std.proofs.lemmas.Result.{err_from_is_err_and}
use Rattle.line_list.specs.Lines.{lines}
use Rattle.hunk_core.specs.PlainHunk.{body_of}
use Rattle.hunk_core.specs.Reading.{ahead_of}
use Rattle.normal_form.proofs.ReaderExits.{met, told, hunk_none, hunk_unopened, hunk_fails, hunk_refused, hunk_whole}
use Rattle.outside.proofs.Exits.{if_ok_none}
use Rattle.normal_form.proofs.hunks.take_hunk.Goals as goal

pub next_line-requires : goal.next_line-requires
next_line-requires c = c.requires.within

pub overflow_add-number : goal.overflow_add-number
overflow_add-number c = omega (arith, c.requires.small, c.requires.within, c.requires.short)

pub read_body-requires : goal.read_body-requires
read_body-requires c = record { short = c.requires.short; within = c.in-Some.ensures.high; small = omega (arith, c.requires.small, c.in-Some.ensures.low) }

pub returns-in_err-body-clause-place : goal.returns-in_err-body-clause-place
returns-in_err-body-clause-place c = if_ok_none _ _ c.from_residual.result c.from_residual.ensures.1

pub returns-in_err-body-clause-few : goal.returns-in_err-body-clause-few
returns-in_err-body-clause-few c = if_ok_none _ _ c.from_residual.result c.from_residual.ensures.1

pub returns-in_err-body-clause-lawful : goal.returns-in_err-body-clause-lawful
returns-in_err-body-clause-lawful c = if_ok_none _ _ c.from_residual.result c.from_residual.ensures.1

pub backslash_end-requires : goal.backslash_end-requires
backslash_end-requires c = c.in_ok-body.ensures.place.0.within

pub returns-clause-place : goal.returns-clause-place
returns-clause-place c = (c.in_ok-body.ensures.place.0, omega (arith, c.in_ok-body.ensures.place.1, c.in-Some.ensures.low))

pub returns-clause-few : goal.returns-clause-few
returns-clause-few c = omega (arith, c.in_ok-body.ensures.few, c.in-Some.ensures.low)

pub returns-clause-lawful : goal.returns-clause-lawful
returns-clause-lawful c = record { few = omega (arith, c.in_ok-body.ensures.few, c.in_ok-body.ensures.place.0.within, c.requires.short); within = c.in_ok-body.ensures.lies }

pub returns-in_default-clause-exact : goal.returns-in_default-clause-exact
returns-in_default-clause-exact c = met c.bad.result _ _ _ c.bad.ensures (hunk_none c.args.least c.args.place.number _ c.in_default.ensures.1)

pub returns-in-Err-clause-exact : goal.returns-in-Err-clause-exact
returns-in-Err-clause-exact c = met c.bad-in-Err.result _ _ _ c.bad-in-Err.ensures (hunk_unopened c.args.least c.args.place.number _ _ _ c.in-Err.kind c.in-Some.ensures.first c.in-Err.ensures.exact)

pub returns-in_err-body-clause-exact : goal.returns-in_err-body-clause-exact
returns-in_err-body-clause-exact c =
    let p = err_from_is_err_and c.from_residual.result c.from_residual.ensures.1 in
    rw (p.1, p.2) (hunk_fails c.in_err-body.field-0.0 c.args.least c.args.place.number _ _ c.in-Ok.command (record { line = slice_range c.args.text.now c.args.place.at c.in-Some.end; parts = c.in-Some.ensures.first; opens = c.in-Ok.ensures.exact }) c.in_err-body.ensures.exact)

pub returns-then-is_some-clause-exact : goal.returns-then-is_some-clause-exact
returns-then-is_some-clause-exact c = met c.bad-then-is_some.result _ _ _ c.bad-then-is_some.ensures (hunk_refused c.args.least c.args.place.number _ _ c.in-Ok.command (body_of c.args.text.now c.in_ok-body.body.items) (ahead_of c.args.text.now c.in_ok-body.next) (record { line = slice_range c.args.text.now c.args.place.at c.in-Some.end; parts = c.in-Some.ensures.first; opens = c.in-Ok.ensures.exact }) c.in_ok-body.ensures.exact (told (λ e. lines (drop e c.args.text.now)) c.backslash_end.result _ true c.backslash_end.ensures.exact c.if-is_some.ensures))

pub returns-clause-exact : goal.returns-clause-exact
returns-clause-exact c = hunk_whole c.args.least c.args.place.number _ _ c.in-Ok.command (body_of c.args.text.now c.in_ok-body.body.items) (ahead_of c.args.text.now c.in_ok-body.next) (record { line = slice_range c.args.text.now c.args.place.at c.in-Some.end; parts = c.in-Some.ensures.first; opens = c.in-Ok.ensures.exact }) c.in_ok-body.ensures.exact (told (λ e. lines (drop e c.args.text.now)) c.backslash_end.result _ false c.backslash_end.ensures.exact c.if-is_some.ensures)

pub overflow_cast-hunk : goal.overflow_cast-hunk
overflow_cast-hunk c = omega (arith, c.in-Ok.ensures.fits.old)

pub overflow_cast-hunk-2 : goal.overflow_cast-hunk-2
overflow_cast-hunk-2 c = omega (arith, c.in-Ok.ensures.fits.new)
