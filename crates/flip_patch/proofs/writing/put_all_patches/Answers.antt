use Rattle.std.proofs.Common.{◌≡◌, ◌+◌, ◌-◌, ◌<◌, length, subst, arith}
use Rattle.std.proofs.lemmas.Result.{err_from_is_err_and}
use Rattle.outside.proofs.SinkSteps.{HasPut}
use Rattle.line_list.proofs.Elements.{there-is}
use Rattle.flip_patch.specs.Flipped.{flipped_patch}
use Rattle.flip_patch.proofs.Loops.{back_to, goes-back, stops-back, ends-back, begins-back}
use Rattle.flip_patch.proofs.Placed.{flipped-is, down-up, falls, long-enough, number-fits, some-left, under-end}
use Rattle.flip_patch.proofs.writing.put_all_patches.Goals as goal

pub loop-patch-preserved : goal.loop-patch-preserved
loop-patch-preserved g c =
    let v = c.args.set.now in
    let k = c.loop-patch.patch - 1 in
    let next : c.loop-patch.patch ≡ c.loop-patch.patch - 1 + 1 = down-up c.loop-patch.patch c.loop-patch-test.true in
    let lt : c.loop-patch.patch - 1 < length v.patches = under-end c.loop-patch.patch c.patches-patch.result.now v.patches c.loop-patch-test.true c.loop-patch.auto.patch c.patches-patch.ensures.patches in
    let p = there-is v.patches k lt in
    let before = subst (λ n. HasPut g.O.Sink.view g.O.Sink.same_rest c.args.out.now c.loop-patch.out (back_to (flipped_patch v.text) v.patches n)) next c.loop-patch.invariant in
    goes-back (flipped_patch v.text) v.patches g.met.O.Sink.rest_both k p.0 c.in_ok-put_patch.field-0 lt p.1 before (c.in_ok-put_patch.ensures p.0 p.1)

pub returns-in_err-put_patch : goal.returns-in_err-put_patch
returns-in_err-put_patch g c =
    let v = c.args.set.now in
    let k = c.loop-patch.patch - 1 in
    let next : c.loop-patch.patch ≡ c.loop-patch.patch - 1 + 1 = down-up c.loop-patch.patch c.loop-patch-test.true in
    let lt : c.loop-patch.patch - 1 < length v.patches = under-end c.loop-patch.patch c.patches-patch.result.now v.patches c.loop-patch-test.true c.loop-patch.auto.patch c.patches-patch.ensures.patches in
    let p = there-is v.patches k lt in
    let before = subst (λ n. HasPut g.O.Sink.view g.O.Sink.same_rest c.args.out.now c.loop-patch.out (back_to (flipped_patch v.text) v.patches n)) next c.loop-patch.invariant in
    let q = err_from_is_err_and c.from_residual.result c.from_residual.ensures.1 in
    rw (q.1, flipped-is v) (stops-back (flipped_patch v.text) v.patches g.met.O.Sink.rest_both k p.0 c.in_err-put_patch.field-0.0 q.0 lt p.1 before (c.in_err-put_patch.ensures p.0 p.1))

pub returns : goal.returns
returns g c =
    let v = c.args.set.now in
    let end : c.loop-patch.patch ≡ 0 = omega (arith, c.loop-patch-test.false) in
    rw (flipped-is v) (ends-back (flipped_patch v.text) v.patches g.met.O.Sink.rest_both c.loop-patch.patch _ end c.loop-patch.invariant)

pub loop-patch-init : goal.loop-patch-init
loop-patch-init g c = begins-back (flipped_patch c.args.set.now.text) c.args.set.now.patches g.met.O.Sink.rest_both g.met.O.Sink.rest_none c.args.out.now (length c.patches-patch.result.now) (long-enough c.patches-patch.result.now c.args.set.now.patches c.patches-patch.ensures.patches)

pub put_patch-requires : goal.put_patch-requires
put_patch-requires g c = under-end c.loop-patch.patch c.patches-patch.result.now c.args.set.now.patches c.loop-patch-test.true c.loop-patch.auto.patch c.patches-patch.ensures.patches

pub overflow_cast-patch : goal.overflow_cast-patch
overflow_cast-patch g c = number-fits _ _ (under-end c.loop-patch.patch c.patches-patch.result.now c.args.set.now.patches c.loop-patch-test.true c.loop-patch.auto.patch c.patches-patch.ensures.patches) c.patches-patch.ensures.whole.count

pub loop-patch-smaller : goal.loop-patch-smaller
loop-patch-smaller g c = falls c.loop-patch.patch c.loop-patch-test.true

pub overflow_step-patch : goal.overflow_step-patch
overflow_step-patch g c = some-left c.loop-patch.patch c.loop-patch-test.true
