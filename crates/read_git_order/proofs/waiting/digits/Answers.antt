use Rattle.std.proofs.Common.{get_or, refl, sym, ◌∙◌}
use Rattle.read_git_order.proofs.Steps.{counted-all, counted-more, counted-stop}
use Rattle.read_git_order.proofs.waiting.digits.Goals as goal

pub returns-then-not-is_digit-clause-is : goal.returns-then-not-is_digit-clause-is
returns-then-not-is_digit-clause-is c =
    counted-stop c.args.bytes.now c.digits.count (get_or c.args.bytes.now c.digits.count 0) c.digits.invariant c.digits-test.true refl (sym c.is_digit.ensures ∙ c.if-not-is_digit.true)

pub digits-preserved : goal.digits-preserved
digits-preserved c =
    counted-more c.args.bytes.now c.digits.count (get_or c.args.bytes.now c.digits.count 0) c.digits.invariant c.digits-test.true refl (sym c.is_digit.ensures ∙ c.if-not-is_digit.false)

pub returns-clause-is : goal.returns-clause-is
returns-clause-is c = counted-all c.args.bytes.now c.digits.count c.digits.invariant c.digits-test.false
