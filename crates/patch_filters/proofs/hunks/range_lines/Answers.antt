use Rattle.std.proofs.Common.{arith, refl, rules}
use Rattle.patch_filters.proofs.Digesting.{no-range, some-range}
use Rattle.patch_filters.proofs.hunks.range_lines.Goals as goal

pub returns-then-count-eq0 : goal.returns-then-count-eq0
returns-then-count-eq0 c = no-range c.args.old c.from-count.result _ _ c.from-count.ensures (search rules) c.from-line.ensures c.from-line.ensures

pub returns : goal.returns
returns c = some-range c.args.old c.from-count.result _ _ c.from-count.ensures (omega (arith, c.if-count-eq0.false)) c.from-first.ensures refl
