use Rattle.std.proofs.Common.{arith}
use Rattle.plan_b.proofs.Layouts.{place-fits, some-fit}
use Rattle.plan_b.proofs.layout.Layout.place_on_page.Goals as goal

pub returns-clause-within : goal.returns-clause-within
returns-clause-within c = place-fits c.args.self.now c.args.k c.requires.is

pub overflow_mul-result : goal.overflow_mul-result
overflow_mul-result c = omega (arith, place-fits c.args.self.now c.args.k c.requires.is, c.requires.is.sized.1)

pub nonzero_rem-result : goal.nonzero_rem-result
nonzero_rem-result c = some-fit c.args.self.now c.requires.is
