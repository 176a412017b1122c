use Rattle.stamp.proofs.OptionLemmas.{none-if}
use Rattle.std.proofs.Common.{arith}
use Rattle.stamp.proofs.clock.Goals as goal

pub returns-in_err-hour-clause-bound : goal.returns-in_err-hour-clause-bound
returns-in_err-hour-clause-bound c = none-if _ c.from_residual.result c.from_residual.ensures

pub returns-in_err-minute-clause-bound : goal.returns-in_err-minute-clause-bound
returns-in_err-minute-clause-bound c = none-if _ c.from_residual-in_err-minute.result c.from_residual-in_err-minute.ensures

pub returns-in_err-second-clause-bound : goal.returns-in_err-second-clause-bound
returns-in_err-second-clause-bound c = none-if _ c.from_residual-in_err-second.result c.from_residual-in_err-second.ensures

pub returns-then-second-le59-clause-bound : goal.returns-then-second-le59-clause-bound
returns-then-second-le59-clause-bound c = omega arith

pub overflow_add-result-then-second-le59 : goal.overflow_add-result-then-second-le59
overflow_add-result-then-second-le59 c = omega arith

pub overflow_add-result : goal.overflow_add-result
overflow_add-result c = omega arith

pub overflow_mul-result-then-second-le59 : goal.overflow_mul-result-then-second-le59
overflow_mul-result-then-second-le59 c = omega arith

pub overflow_mul-result : goal.overflow_mul-result
overflow_mul-result c = omega arith
