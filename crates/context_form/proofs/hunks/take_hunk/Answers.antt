use Rattle.std.proofs.Common.{drop, sym, ◌∙◌, arith}
use Rattle.outside.proofs.Exits.{if_ok_none}
use Rattle.std.proofs.lemmas.Result.{err_from_is_err_and}
use Rattle.hunk_core.specs.Reading.{ahead_of}
use Rattle.hunk_core.specs.PlainHunk.{hunk_of}
use Rattle.context_form.specs.Hunks.{part_over}
use Rattle.context_form.proofs.StepLemmas.{hunk-fails, hunk-unquiet, hunk-read, some-as}
use Rattle.line_list.specs.Lines.{lines}
use Rattle.context_form.proofs.hunks.take_hunk.Goals as goal

pub next_line-requires : goal.next_line-requires
next_line-requires c = c.requires.within

pub overflow_add-number : goal.overflow_add-number
overflow_add-number c = omega (arith, c.requires.small, c.requires.within, c.requires.short)

pub read_parts-requires : goal.read_parts-requires
read_parts-requires c = record { short = c.requires.short; within = c.in-Some.ensures.high; small = omega (arith, c.requires.small, c.in-Some.ensures.low) }

pub returns-in_err-old-clause-place : goal.returns-in_err-old-clause-place
returns-in_err-old-clause-place c = if_ok_none _ _ c.from_residual.result c.from_residual.ensures.1

pub returns-in_err-old-clause-few : goal.returns-in_err-old-clause-few
returns-in_err-old-clause-few c = if_ok_none _ _ c.from_residual.result c.from_residual.ensures.1

pub returns-in_err-old-clause-lawful : goal.returns-in_err-old-clause-lawful
returns-in_err-old-clause-lawful c = if_ok_none _ _ c.from_residual.result c.from_residual.ensures.1

pub hunk_from-requires-clause-old_within : goal.hunk_from-requires-clause-old_within
hunk_from-requires-clause-old_within c = c.in_ok-old.ensures.old_lies

pub hunk_from-requires-clause-new_within : goal.hunk_from-requires-clause-new_within
hunk_from-requires-clause-new_within c = c.in_ok-old.ensures.new_lies

pub hunk_from-requires-clause-few : goal.hunk_from-requires-clause-few
hunk_from-requires-clause-few c = omega (arith, c.in_ok-old.ensures.few, c.in_ok-old.ensures.place.0.within, c.requires.short)

pub hunk_from-requires-clause-old_fits : goal.hunk_from-requires-clause-old_fits
hunk_from-requires-clause-old_fits c = c.in_ok-old.ensures.old_fits

pub hunk_from-requires-clause-new_fits : goal.hunk_from-requires-clause-new_fits
hunk_from-requires-clause-new_fits c = c.in_ok-old.ensures.new_fits

pub returns-in_err-hunk-clause-place : goal.returns-in_err-hunk-clause-place
returns-in_err-hunk-clause-place c = if_ok_none _ _ c.from_residual-in_err-hunk.result c.from_residual-in_err-hunk.ensures.1

pub returns-in_err-hunk-clause-few : goal.returns-in_err-hunk-clause-few
returns-in_err-hunk-clause-few c = if_ok_none _ _ c.from_residual-in_err-hunk.result c.from_residual-in_err-hunk.ensures.1

pub returns-in_err-hunk-clause-lawful : goal.returns-in_err-hunk-clause-lawful
returns-in_err-hunk-clause-lawful c = if_ok_none _ _ c.from_residual-in_err-hunk.result c.from_residual-in_err-hunk.ensures.1

pub backslash_end-requires : goal.backslash_end-requires
backslash_end-requires c = c.in_ok-old.ensures.place.0.within

pub returns-clause-place : goal.returns-clause-place
returns-clause-place c = (c.in_ok-old.ensures.place.0, omega (arith, c.in_ok-old.ensures.place.1, c.in-Some.ensures.low))

pub returns-clause-few : goal.returns-clause-few
returns-clause-few c = omega (arith, c.in_ok-hunk.ensures.few, c.in_ok-old.ensures.few, c.in-Some.ensures.low)

pub returns-clause-lawful : goal.returns-clause-lawful
returns-clause-lawful c = c.in_ok-hunk.ensures.lawful

pub returns-in_err-hunk-clause-exact : goal.returns-in_err-hunk-clause-exact
returns-in_err-hunk-clause-exact c =
    let p = err_from_is_err_and c.from_residual-in_err-hunk.result c.from_residual-in_err-hunk.ensures.1 in
    rw (p.1, p.2) (hunk-fails c.in_err-hunk.field-0.0 c.args.least c.args.place.number _ _ _ ((part_over c.args.text.now c.in_ok-old.old, part_over c.args.text.now c.in_ok-old.new), ahead_of c.args.text.now c.in_ok-old.next) c.in-Some.ensures.first c.in_ok-old.ensures.exact c.in_err-hunk.ensures.exact)

pub returns-then-is_some-clause-exact : goal.returns-then-is_some-clause-exact
returns-then-is_some-clause-exact c = rw c.bad-then-is_some.ensures (hunk-unquiet c.args.least c.args.place.number _ _ _ ((part_over c.args.text.now c.in_ok-old.old, part_over c.args.text.now c.in_ok-old.new), ahead_of c.args.text.now c.in_ok-old.next) (hunk_of c.args.text.now c.in_ok-hunk.hunk) c.in-Some.ensures.first c.in_ok-old.ensures.exact c.in_ok-hunk.ensures.exact (some-as (λ e. lines (drop e c.args.text.now)) _ _ c.backslash_end.ensures.exact ∙ sym c.if-is_some.ensures))

pub returns-clause-exact : goal.returns-clause-exact
returns-clause-exact c = hunk-read c.args.least c.args.place.number _ _ _ ((part_over c.args.text.now c.in_ok-old.old, part_over c.args.text.now c.in_ok-old.new), ahead_of c.args.text.now c.in_ok-old.next) (hunk_of c.args.text.now c.in_ok-hunk.hunk) c.in-Some.ensures.first c.in_ok-old.ensures.exact c.in_ok-hunk.ensures.exact (some-as (λ e. lines (drop e c.args.text.now)) _ _ c.backslash_end.ensures.exact ∙ sym c.if-is_some.ensures)
