use Rattle.std.proofs.Common.{refl}
use Rattle.plan_a.proofs.text.read_bytes.Goals as goal

pub returns-clause-untouched : goal.returns-clause-untouched
returns-clause-untouched g c = c.read_at.ensures.untouched

pub returns-clause-passes : goal.returns-clause-passes
returns-clause-passes g c = c.read_at.ensures.untouched.passes

pub returns-then-got-length-clause-untouched : goal.returns-then-got-length-clause-untouched
returns-then-got-length-clause-untouched g c = c.read_at.ensures.untouched

pub returns-then-got-length-clause-passes : goal.returns-then-got-length-clause-passes
returns-then-got-length-clause-passes g c = c.read_at.ensures.untouched.passes

pub returns-then-got-length-clause-wanted : goal.returns-then-got-length-clause-wanted
returns-then-got-length-clause-wanted g c = (refl, c.if-got-length.true)
