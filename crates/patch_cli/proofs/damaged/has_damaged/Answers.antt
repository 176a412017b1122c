use Rattle.std.proofs.Common.{sym, ◌∙◌}
use Rattle.patch_cli.proofs.Outside.{all_left, told_all, low, high, here, on, within, behind}
use Rattle.patch_cli.proofs.damaged.has_damaged.Goals as goal

pub loop-k-init : goal.loop-k-init
loop-k-init c = all_left c.args.set.now c.patches-patches.ensures.whole c.text-text.result.now c.patches-patches.result.now c.text-text.ensures c.patches-patches.ensures.patches

pub slice_bounds-tells_damaged-count : goal.slice_bounds-tells_damaged-count
slice_bounds-tells_damaged-count c = low c.text-text.result.now c.loop-k.at c.patches-patches.result.now c.loop-k.k c.loop-k.invariant c.index-patches-k.result c.loop-k-test.true c.index-patches-k.is

pub slice_bounds-tells_damaged-end : goal.slice_bounds-tells_damaged-end
slice_bounds-tells_damaged-end c = high c.text-text.result.now c.loop-k.at c.patches-patches.result.now c.loop-k.k c.loop-k.invariant c.index-patches-k.result c.loop-k-test.true c.index-patches-k.is

pub returns-then-tells_damaged : goal.returns-then-tells_damaged
returns-then-tells_damaged c =
    sym (sym (told_all c.args.set.now c.patches-patches.ensures.whole c.text-text.result.now c.patches-patches.result.now c.text-text.ensures c.patches-patches.ensures.patches)
    ∙ here c.text-text.result.now c.loop-k.at c.patches-patches.result.now c.loop-k.k c.loop-k.invariant c.index-patches-k.result c.loop-k-test.true c.index-patches-k.is (sym c.tells_damaged.ensures ∙ c.if-tells_damaged.true))

pub loop-k-preserved : goal.loop-k-preserved
loop-k-preserved c = on c.text-text.result.now c.loop-k.at c.patches-patches.result.now c.loop-k.k c.loop-k.invariant c.index-patches-k.result c.loop-k-test.true c.index-patches-k.is (sym c.tells_damaged.ensures ∙ c.if-tells_damaged.false)

pub slice_bounds-tells_damaged-count-2 : goal.slice_bounds-tells_damaged-count-2
slice_bounds-tells_damaged-count-2 c = within c.text-text.result.now c.loop-k.at c.patches-patches.result.now c.loop-k.k c.loop-k.invariant c.loop-k-test.false

pub returns : goal.returns
returns c = c.tells_damaged-2.ensures ∙ sym (behind c.text-text.result.now c.loop-k.at c.patches-patches.result.now c.loop-k.k c.loop-k.invariant c.loop-k-test.false)
    ∙ told_all c.args.set.now c.patches-patches.ensures.whole c.text-text.result.now c.patches-patches.result.now c.text-text.ensures c.patches-patches.ensures.patches
