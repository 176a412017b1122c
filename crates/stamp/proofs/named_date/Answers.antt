use Rattle.std.proofs.Common.{sym, ◌∙◌, arith, ◌&&◌, ap}
use Rattle.stamp.proofs.NamedLemmas.{named_day-no_month, named_day-of, named_day-no_day, named_day-no_year, named_day-other}
use Rattle.stamp.proofs.OptionLemmas.{none-if}
use Rattle.std.proofs.lemmas.Bool.{and_right}
use Rattle.stamp.specs.Reading.{stands}
use Rattle.stamp.proofs.named_date.Goals.{else-is_byte-via-then-is_byte+then-is_byte-2+then-is_byte-3+else-is_byte-4, else-is_byte-via-then-is_byte+then-is_byte-2+else-is_byte-3, else-is_byte-via-then-is_byte+else-is_byte-2, else-is_byte-via-else-is_byte}
use Rattle.stamp.proofs.named_date.Goals as goal

pub returns-in_err-month-clause-value : goal.returns-in_err-month-clause-value
returns-in_err-month-clause-value c =
    c.from_residual-in_err-month.ensures ∙ sym (named_day-no_month c.args.text.now c.in_ok-place_of.field-0 (sym c.in_ok-place_of.ensures.value) (sym c.in_err-month.ensures.value))

pub returns-then-is_byte-4-clause-value : goal.returns-then-is_byte-4-clause-value
returns-then-is_byte-4-clause-value c =
    c.day_from.ensures.value
    ∙ sym (named_day-of c.args.text.now c.in_ok-place_of.field-0 c.in_ok-month.month c.in_ok-day.day c.in_ok-year.year (sym c.in_ok-place_of.ensures.value) (sym c.in_ok-month.ensures.value) (sym c.in_ok-day.ensures.value) (sym c.in_ok-year.ensures.value) (sym c.if-is_byte.ensures) (sym c.if-is_byte-2.ensures) (sym c.if-is_byte-3.ensures) (sym c.if-is_byte-4.ensures))

pub returns-in_err-place_of-clause-bound : goal.returns-in_err-place_of-clause-bound
returns-in_err-place_of-clause-bound c = none-if _ c.from_residual.result c.from_residual.ensures

pub returns-in_err-month-clause-bound : goal.returns-in_err-month-clause-bound
returns-in_err-month-clause-bound c = none-if _ c.from_residual-in_err-month.result c.from_residual-in_err-month.ensures

pub returns-in_err-day-clause-bound : goal.returns-in_err-day-clause-bound
returns-in_err-day-clause-bound c = none-if _ c.from_residual-in_err-day.result c.from_residual-in_err-day.ensures

pub returns-in_err-year-clause-bound : goal.returns-in_err-year-clause-bound
returns-in_err-year-clause-bound c = none-if _ c.from_residual-in_err-year.result c.from_residual-in_err-year.ensures

pub day_from-requires-clause-days : goal.day_from-requires-clause-days
day_from-requires-clause-days c = c.in_ok-day.ensures.bound

pub day_from-requires-clause-years : goal.day_from-requires-clause-years
day_from-requires-clause-years c = c.in_ok-year.ensures.bound

pub day_from-requires-clause-months : goal.day_from-requires-clause-months
day_from-requires-clause-months c = omega (arith, c.in_ok-month.ensures.bound)

pub overflow_cast-month : goal.overflow_cast-month
overflow_cast-month c = omega (arith, c.in_ok-month.ensures.bound)

pub overflow_add-month : goal.overflow_add-month
overflow_add-month c = omega (arith, c.in_ok-month.ensures.bound)

pub returns-then-is_byte-4-clause-bound : goal.returns-then-is_byte-4-clause-bound
returns-then-is_byte-4-clause-bound c = c.day_from.ensures.bound

pub returns-in_err-day-clause-value : goal.returns-in_err-day-clause-value
returns-in_err-day-clause-value c =
    c.from_residual-in_err-day.ensures ∙ sym (named_day-no_day c.args.text.now c.in_ok-place_of.field-0 c.in_ok-month.month (sym c.in_ok-place_of.ensures.value) (sym c.in_ok-month.ensures.value) (sym c.in_err-day.ensures.value))

pub returns-in_err-year-clause-value : goal.returns-in_err-year-clause-value
returns-in_err-year-clause-value c =
    c.from_residual-in_err-year.ensures
    ∙ sym (named_day-no_year c.args.text.now c.in_ok-place_of.field-0 c.in_ok-month.month c.in_ok-day.day (sym c.in_ok-place_of.ensures.value) (sym c.in_ok-month.ensures.value) (sym c.in_ok-day.ensures.value) (sym c.in_err-year.ensures.value))

pub returns-else-is_byte-clause-value : goal.returns-else-is_byte-clause-value
returns-else-is_byte-clause-value c =
    let text = c.args.text.now in
    sym (named_day-other text c.in_ok-place_of.field-0 c.in_ok-month.month c.in_ok-day.day c.in_ok-year.year (sym c.in_ok-place_of.ensures.value) (sym c.in_ok-month.ensures.value) (sym c.in_ok-day.ensures.value) (sym c.in_ok-year.ensures.value)
    (elim c.else-is_byte.branch [
      | else-is_byte-via-then-is_byte+then-is_byte-2+then-is_byte-3+else-is_byte-4 w ↦ and_right _ _ (sym w.if-is_byte-4.ensures)
      | else-is_byte-via-then-is_byte+then-is_byte-2+else-is_byte-3 w ↦ ap (λ v. v && stands text 19 32) (and_right _ _ (sym w.if-is_byte-3.ensures))
      | else-is_byte-via-then-is_byte+else-is_byte-2 w ↦ ap (λ v. (v && stands text 10 32) && stands text 19 32) (and_right _ _ (sym w.if-is_byte-2.ensures))
      | else-is_byte-via-else-is_byte w ↦ ap (λ v. ((v && stands text 7 32) && stands text 10 32) && stands text 19 32) (sym w.if-is_byte.ensures)
    ]))
