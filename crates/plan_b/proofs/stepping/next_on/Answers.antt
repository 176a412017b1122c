use Rattle.std.proofs.Common.{refl, arith}
use Rattle.plan_b.proofs.Reached.{next-fits, next-spot-fits, spot-fits}
use Rattle.plan_b.proofs.stepping.next_on.Goals as goal

pub returns : goal.returns
returns c = next-fits c.args.page.now c.args.layout c.args.k c.args.spot _ c.if_fits.result c.requires.layout c.requires.is (omega arith) refl refl c.if_fits.ensures

pub if_fits-requires-clause-within : goal.if_fits-requires-clause-within
if_fits-requires-clause-within c = omega (arith, c.requires.layout.low, next-spot-fits c.args.layout c.args.k c.args.spot c.requires.layout c.requires.is.spot (omega (arith, c.if-spot-layout.false)), c.requires.size)

pub overflow_add-next-2 : goal.overflow_add-next-2
overflow_add-next-2 c = omega (arith, spot-fits c.args.layout c.args.k c.args.spot c.requires.layout c.requires.is.spot, c.requires.layout.sized.1)
