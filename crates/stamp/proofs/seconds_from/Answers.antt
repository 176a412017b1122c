use Rattle.stamp.proofs.Signed.{days-fit, same-bounds, sum-bounds, sum-fits, sum-stays}
use Rattle.stamp.proofs.seconds_from.Goals as goal

pub returns-clause-bound : goal.returns-clause-bound
returns-clause-bound c = same-bounds _ _ _ _ (sum-stays c.args.day c.args.clock c.requires.days c.requires.clocks c.from.result c.from.ensures) (sum-bounds c.args.day c.args.clock c.requires.days c.requires.clocks)

pub returns-clause-value : goal.returns-clause-value
returns-clause-value c = sum-stays c.args.day c.args.clock c.requires.days c.requires.clocks c.from.result c.from.ensures

pub overflow_add-result : goal.overflow_add-result
overflow_add-result c = sum-fits c.args.day c.args.clock c.requires.days c.requires.clocks c.from.result c.from.ensures

pub overflow_mul-result : goal.overflow_mul-result
overflow_mul-result c = days-fit c.args.day c.args.clock c.requires.days c.requires.clocks
