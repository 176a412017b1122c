use Rattle.std.proofs.Common.{sym, ◌∙◌}
use Rattle.flip_patch.proofs.Refused.{falls-all, falls-end, falls-here, falls-on, starts_in}
use Rattle.flip_patch.proofs.refusals.starts_fall.Goals as goal

pub returns-then-start-last : goal.returns-then-start-last
returns-then-start-last c =
    sym (falls-all (starts_in c.args.hunks.now) ∙ sym c.loop-i.invariant ∙ falls-here c.args.hunks.now c.loop-i.i c.loop-i.last c.index-hunks-i.result c.loop-i-test.true c.if-start-last.true)

pub loop-i-preserved : goal.loop-i-preserved
loop-i-preserved c = sym (falls-on c.args.hunks.now c.loop-i.i c.loop-i.last c.index-hunks-i.result c.loop-i-test.true c.if-start-last.false) ∙ c.loop-i.invariant

pub returns : goal.returns
returns c = sym (falls-all (starts_in c.args.hunks.now) ∙ sym c.loop-i.invariant ∙ falls-end c.args.hunks.now c.loop-i.i c.loop-i.last c.loop-i-test.false)
