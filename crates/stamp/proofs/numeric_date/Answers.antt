use Rattle.stamp.proofs.OptionLemmas.{none-if}
use Rattle.std.proofs.Common.{◌&&◌, ap, sym, ◌∙◌}
use Rattle.std.proofs.lemmas.Bool.{and_right}
use Rattle.stamp.specs.Reading.{stands}
use Rattle.stamp.proofs.Parts.{numeric_day-of, numeric_day-other}
use Rattle.stamp.proofs.numeric_date.Goals.{else-is_byte-via-then-is_byte+then-is_byte-2+else-is_byte-3, else-is_byte-via-then-is_byte+else-is_byte-2, else-is_byte-via-else-is_byte}
use Rattle.stamp.proofs.numeric_date.Goals as goal

pub returns-in_err-year-clause-bound : goal.returns-in_err-year-clause-bound
returns-in_err-year-clause-bound c = none-if _ c.from_residual.result c.from_residual.ensures

pub returns-in_err-month-clause-bound : goal.returns-in_err-month-clause-bound
returns-in_err-month-clause-bound c = none-if _ c.from_residual-in_err-month.result c.from_residual-in_err-month.ensures

pub returns-in_err-day-clause-bound : goal.returns-in_err-day-clause-bound
returns-in_err-day-clause-bound c = none-if _ c.from_residual-in_err-day.result c.from_residual-in_err-day.ensures

pub day_from-requires-clause-years : goal.day_from-requires-clause-years
day_from-requires-clause-years c = c.in_ok-year.ensures.bound

pub day_from-requires-clause-months : goal.day_from-requires-clause-months
day_from-requires-clause-months c = c.in_ok-month.ensures.bound

pub day_from-requires-clause-days : goal.day_from-requires-clause-days
day_from-requires-clause-days c = c.in_ok-day.ensures.bound

pub returns-then-is_byte-3-clause-bound : goal.returns-then-is_byte-3-clause-bound
returns-then-is_byte-3-clause-bound c = c.day_from.ensures.bound

pub returns-then-is_byte-3-clause-value : goal.returns-then-is_byte-3-clause-value
returns-then-is_byte-3-clause-value c =
    c.day_from.ensures.value
    ∙ sym (numeric_day-of c.args.text.now c.in_ok-year.year c.in_ok-month.month c.in_ok-day.day (sym c.in_ok-year.ensures.value) (sym c.in_ok-month.ensures.value) (sym c.in_ok-day.ensures.value) (sym c.if-is_byte.ensures) (sym c.if-is_byte-2.ensures) (sym c.if-is_byte-3.ensures))

pub returns-else-is_byte-clause-value : goal.returns-else-is_byte-clause-value
returns-else-is_byte-clause-value c =
    let text = c.args.text.now in
    sym (numeric_day-other text c.in_ok-year.year c.in_ok-month.month c.in_ok-day.day (sym c.in_ok-year.ensures.value) (sym c.in_ok-month.ensures.value) (sym c.in_ok-day.ensures.value)
    (elim c.else-is_byte.branch [
      | else-is_byte-via-then-is_byte+then-is_byte-2+else-is_byte-3 w ↦ and_right _ _ (sym w.if-is_byte-3.ensures)
      | else-is_byte-via-then-is_byte+else-is_byte-2 w ↦ ap (λ v. v && stands text 10 32) (and_right _ _ (sym w.if-is_byte-2.ensures))
      | else-is_byte-via-else-is_byte w ↦ ap (λ v. (v && stands text 7 45) && stands text 10 32) (sym w.if-is_byte.ensures)
    ]))
