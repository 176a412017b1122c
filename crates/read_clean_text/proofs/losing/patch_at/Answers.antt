use Rattle.std.proofs.Common.{arith}
use Rattle.read_clean_text.proofs.Finding.{found, found-none, past-more, past-none}
use Rattle.read_clean_text.proofs.losing.patch_at.Goals as goal

pub patches-init : goal.patches-init
patches-init c = past-none c.args.patches.now c.args.first c.args.at c.requires

pub returns-then-at-patch : goal.returns-then-at-patch
returns-then-at-patch c = found c.args.patches.now c.args.first c.patches.next c.args.at c.patches.invariant c.index-patches-next.result (omega (arith, c.patches-test.true)) c.index-patches-next.is (omega (arith, c.if-at-patch.true))

pub patches-preserved : goal.patches-preserved
patches-preserved c = past-more c.args.patches.now c.args.first c.patches.next c.args.at c.patches.invariant c.index-patches-next.result (omega (arith, c.patches-test.true)) c.index-patches-next.is (omega (arith, c.if-at-patch.false))

pub returns : goal.returns
returns c = found-none c.args.patches.now c.args.first c.patches.next c.args.at c.patches.invariant (omega (arith, c.patches-test.false))
