use Rattle.std.proofs.Common.{sym, ◌∙◌}
use Rattle.flip_patch.specs.Refusals.{told_unfit}
use Rattle.flip_patch.proofs.Refused.{first-here, first-on, first-end}
use Rattle.flip_patch.proofs.refusals.first_unfit.Goals as goal

pub returns-then-is_unfit : goal.returns-then-is_unfit
returns-then-is_unfit c =
    sym (first-here told_unfit c.args.patches.now c.loop-i.i c.index-patches-i.result c.is_unfit.result c.loop-i-test.true c.index-patches-i.is c.is_unfit.ensures c.if-is_unfit.true)
    ∙ c.loop-i.invariant

pub loop-i-preserved : goal.loop-i-preserved
loop-i-preserved c =
    sym (first-on told_unfit c.args.patches.now c.loop-i.i c.index-patches-i.result c.is_unfit.result c.loop-i-test.true c.index-patches-i.is c.is_unfit.ensures c.if-is_unfit.false)
    ∙ c.loop-i.invariant

pub returns : goal.returns
returns c = sym (first-end told_unfit c.args.patches.now c.loop-i.i c.loop-i-test.false) ∙ c.loop-i.invariant
