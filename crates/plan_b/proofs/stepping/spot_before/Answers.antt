use Rattle.std.proofs.Common.{refl, arith}
use Rattle.plan_b.proofs.Reached.{before-fits, not-first, spot-fits}
use Rattle.plan_b.proofs.stepping.spot_before.Goals as goal

pub returns : goal.returns
returns c = before-fits c.args.page.now c.args.layout c.args.k c.args.spot _ c.if_fits.result c.requires.layout c.requires.is (omega arith) refl refl c.if_fits.ensures

pub if_fits-requires-clause-within : goal.if_fits-requires-clause-within
if_fits-requires-clause-within c = omega (arith, c.requires.layout.low, spot-fits c.args.layout c.args.k c.args.spot c.requires.layout c.requires.is.spot, c.requires.size)

pub overflow_sub-before-2 : goal.overflow_sub-before-2
overflow_sub-before-2 c = not-first c.args.page.now c.args.layout c.args.k c.args.spot c.requires.is (omega (arith, c.if-spot-eq0.false))
