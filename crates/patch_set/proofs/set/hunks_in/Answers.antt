use Rattle.std.proofs.Common.{◌+◌, [], take, sym, ap, ◌∙◌, arith}
use Rattle.std.proofs.lemmas.List.Sums.{sum_by_more, sum_by_more_le}
use Rattle.read_file_patch.specs.PlainPatch.{row_count}
use Rattle.patch_set.specs.SetView.{hunks_in}
use Rattle.patch_set.proofs.Named.{rows-counted}
use Rattle.std.proofs.lemmas.List.{take_all}
use Rattle.patch_set.proofs.set.hunks_in.Goals as goal

pub loop-patch-preserved : goal.loop-patch-preserved
loop-patch-preserved c =
    let i = c.loop-patch.patch-index in
    let p = c.patch-item.result in
    let before = hunks_in (take i c.args.patches.now) in
    ap (λ n. c.loop-patch.count + n) (c.hunks.ensures [] ∙ rows-counted [] p.change)
    ∙ ap (λ n. n + row_count p.change) c.loop-patch.invariant
    ∙ ap (λ q. before + row_count q.change) c.patch-item.is
    ∙ sym (sum_by_more (λ q. row_count q.change) c.args.patches.now i p (omega arith))

pub hunks-requires : goal.hunks-requires
hunks-requires c =
    omega (arith, c.requires, sum_by_more_le (λ q. row_count q.change) c.args.patches.now c.loop-patch.patch-index c.patch-item.result c.loop-patch-test.true, ap (λ q. row_count q.change) c.patch-item.is)

pub overflow_add-count : goal.overflow_add-count
overflow_add-count c =
    omega (
      arith,
      c.requires,
      sum_by_more_le (λ q. row_count q.change) c.args.patches.now c.loop-patch.patch-index c.patch-item.result c.loop-patch-test.true,
      ap (λ q. row_count q.change) c.patch-item.is,
      c.loop-patch.invariant,
      c.hunks.ensures [] ∙ rows-counted [] c.patch-item.result.change,
    )

pub returns : goal.returns
returns c = c.loop-patch.invariant ∙ ap hunks_in (take_all c.loop-patch.patch-index c.args.patches.now c.loop-patch-test.false)
