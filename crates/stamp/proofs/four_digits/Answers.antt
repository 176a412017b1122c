use Rattle.stamp.proofs.OptionLemmas.{none-if}
use Rattle.stamp.proofs.four_digits.Goals as goal

pub returns-in_err-high-clause-bound : goal.returns-in_err-high-clause-bound
returns-in_err-high-clause-bound c = none-if _ c.from_residual.result c.from_residual.ensures

pub returns-in_err-low-clause-bound : goal.returns-in_err-low-clause-bound
returns-in_err-low-clause-bound c = none-if _ c.from_residual-in_err-low.result c.from_residual-in_err-low.ensures
