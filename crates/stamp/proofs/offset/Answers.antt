use Rattle.stamp.proofs.OptionLemmas.{none-if}
use Rattle.stamp.proofs.Signed.{east-bounds, west-bounds, east-stays}
use Rattle.std.proofs.Common.{Some, arith, ap, sym, ◌∙◌}
use Rattle.stamp.proofs.Parts.{offset-east}
use Rattle.stamp.proofs.offset.Goals as goal

pub returns-in_err-hours-clause-bound : goal.returns-in_err-hours-clause-bound
returns-in_err-hours-clause-bound c = none-if _ c.from_residual.result c.from_residual.ensures

pub returns-in_err-minutes-clause-bound : goal.returns-in_err-minutes-clause-bound
returns-in_err-minutes-clause-bound c = none-if _ c.from_residual-in_err-minutes.result c.from_residual-in_err-minutes.ensures

pub returns-in-43-clause-bound : goal.returns-in-43-clause-bound
returns-in-43-clause-bound c = east-bounds c.in_ok-hours.hours c.in_ok-minutes.minutes c.if-hours-le23.true c.if-minutes-le59.true c.from-seconds.result c.from-seconds.ensures

pub returns-in-45-clause-bound : goal.returns-in-45-clause-bound
returns-in-45-clause-bound c = west-bounds c.in_ok-hours.hours c.in_ok-minutes.minutes c.if-hours-le23.true c.if-minutes-le59.true c.from-seconds.result c.from-seconds.ensures

pub returns-in-43-clause-value : goal.returns-in-43-clause-value
returns-in-43-clause-value c =
    let hours = c.in_ok-hours.hours in
    let minutes = c.in_ok-minutes.minutes in
    ap Some (east-stays hours minutes c.if-hours-le23.true c.if-minutes-le59.true c.from-seconds.result c.from-seconds.ensures)
    ∙ sym (offset-east c.args.rest.now hours minutes (sym c.in_ok-hours.ensures.value) (sym c.in_ok-minutes.ensures.value) c.if-rest-eq6.true (sym c.if-is_byte.ensures) c.if-hours-le23.true c.if-minutes-le59.true c.in-43.is)

pub overflow_add-hours : goal.overflow_add-hours
overflow_add-hours c = omega arith

pub overflow_mul-hours : goal.overflow_mul-hours
overflow_mul-hours c = omega arith

pub overflow_mul-minutes : goal.overflow_mul-minutes
overflow_mul-minutes c = omega arith
