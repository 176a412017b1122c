use Rattle.stamp.proofs.OptionLemmas.{none-if}
use Rattle.stamp.proofs.two_digits.Goals as goal

pub returns-in_err-tens-clause-bound : goal.returns-in_err-tens-clause-bound
returns-in_err-tens-clause-bound c = none-if _ c.from_residual.result c.from_residual.ensures

pub returns-in_err-ones-clause-bound : goal.returns-in_err-ones-clause-bound
returns-in_err-ones-clause-bound c = none-if _ c.from_residual-in_err-ones.result c.from_residual-in_err-ones.ensures
