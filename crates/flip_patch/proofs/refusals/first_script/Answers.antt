use Rattle.std.proofs.Common.{sym, ◌∙◌}
use Rattle.patch_set.specs.Looks.{is_script_change}
use Rattle.flip_patch.proofs.Refused.{first-here, first-on, first-end}
use Rattle.flip_patch.proofs.refusals.first_script.Goals as goal

pub returns-then-is_script : goal.returns-then-is_script
returns-then-is_script c =
    sym (first-here (λ p. is_script_change p.change) c.args.patches.now c.loop-i.i c.index-patches-i.result c.is_script.result c.loop-i-test.true c.index-patches-i.is c.is_script.ensures c.if-is_script.true)
    ∙ c.loop-i.invariant

pub loop-i-preserved : goal.loop-i-preserved
loop-i-preserved c =
    sym (first-on (λ p. is_script_change p.change) c.args.patches.now c.loop-i.i c.index-patches-i.result c.is_script.result c.loop-i-test.true c.index-patches-i.is c.is_script.ensures c.if-is_script.false)
    ∙ c.loop-i.invariant

pub returns : goal.returns
returns c = sym (first-end (λ p. is_script_change p.change) c.args.patches.now c.loop-i.i c.loop-i-test.false) ∙ c.loop-i.invariant
