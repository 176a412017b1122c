use Rattle.std.proofs.Common.{arith}
use Rattle.read_patch_text.proofs.DigestLemmas.{range-more, ranges-all}
use Rattle.read_patch_text.proofs.digest.ranges_of.Goals as goal

pub loop-k-preserved : goal.loop-k-preserved
loop-k-preserved c = λ text.
    rw c.in_ok-push.ensures.items (range-more text c.args.hunks.now c.loop-k.k c.index-hunks-k.result c.loop-k.olds.items c.old_range.result (omega (arith, c.loop-k-test.true)) c.index-hunks-k.is (c.old_range.ensures text) (c.loop-k.invariant text))

pub returns : goal.returns
returns c = λ text. ranges-all text c.args.hunks.now c.loop-k.k c.loop-k.olds.items c.loop-k-test.false (c.loop-k.invariant text)
