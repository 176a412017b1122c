use Rattle.std.proofs.Common.{arith}
use Rattle.patch_set.proofs.Skipping.{past-none, past-more, past-front, past-within, past-all}
use Rattle.patch_set.proofs.skipped.outside_from.Goals as goal

pub regions-init : goal.regions-init
regions-init c = past-none c.args.patches.now c.args.first c.args.at c.requires

pub returns-then-at-patch : goal.returns-then-at-patch
returns-then-at-patch c = record {
  within = c.regions.invariant.within;
  outside = past-front c.args.patches.now c.args.first c.regions.next c.args.at c.regions.invariant c.index-patches-next.result (omega (arith, c.regions-test.true)) c.index-patches-next.is (omega (arith, c.if-at-patch.true));
  behind = c.regions.invariant.behind;
}

pub returns-then-at-patch-2 : goal.returns-then-at-patch-2
returns-then-at-patch-2 c = record {
  within = c.regions.invariant.within;
  outside = past-within c.args.patches.now c.args.first c.regions.next c.args.at c.regions.invariant c.index-patches-next.result (omega (arith, c.regions-test.true)) c.index-patches-next.is (omega (arith, c.if-at-patch.false)) (omega (arith, c.if-at-patch-2.true));
  behind = c.regions.invariant.behind;
}

pub regions-preserved : goal.regions-preserved
regions-preserved c =
    past-more c.args.patches.now c.args.first c.regions.next c.args.at c.regions.invariant c.index-patches-next.result (omega (arith, c.regions-test.true)) c.index-patches-next.is (omega (arith, c.if-at-patch.false)) (omega (arith, c.if-at-patch-2.false))

pub returns : goal.returns
returns c = record {
  within = c.regions.invariant.within;
  outside = past-all c.args.patches.now c.args.first c.regions.next c.args.at c.regions.invariant (omega (arith, c.regions-test.false));
  behind = c.regions.invariant.behind;
}

pub bounds-patches-next : goal.bounds-patches-next
bounds-patches-next c = c.regions-test.true

pub regions-smaller : goal.regions-smaller
regions-smaller c = omega (arith, c.regions-test.true)
