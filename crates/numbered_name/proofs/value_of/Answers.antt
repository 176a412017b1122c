use Rattle.std.proofs.Common.{sym, ◌∙◌, arith}
use Rattle.numbered_name.proofs.Capped.{capped-step, capped-end}
use Rattle.numbered_name.proofs.value_of.Goals as goal

pub returns : goal.returns
returns c = capped-end c.args.digits.now c.loop-i.i c.loop-i.value _ c.loop-i.invariant.fits (λ lt. absurd (omega (arith, lt, c.loop-i-test.false))) c.loop-i.invariant.same

pub returns-then-not-is_digit : goal.returns-then-not-is_digit
returns-then-not-is_digit c = capped-end c.args.digits.now c.loop-i.i c.loop-i.value _ c.loop-i.invariant.fits (λ lt. sym c.is_digit.ensures ∙ c.if-not-is_digit.true) c.loop-i.invariant.same

pub loop-i-preserved : goal.loop-i-preserved
loop-i-preserved c = record {
  fits = c.saturating_add-value.type_inv;
  same = capped-step c.args.digits.now c.loop-i.i c.loop-i.value c.saturating_mul.result c.from.result c.saturating_add-value.result c.loop-i-test.true (sym c.is_digit.ensures ∙ c.if-not-is_digit.false) c.saturating_mul.ensures c.from.ensures c.saturating_add-value.ensures ∙ c.loop-i.invariant.same;
}
