use Rattle.std.proofs.Common.{◌≡◌, ◌<◌, ◌≤◌, ◌-◌, ◌++◌, ◌∙◌, ℕ, ap, arith, subst}
use Rattle.std.specs.List.{flat_map, range_with_len}
use Rattle.read_file_patch.specs.PlainPatch.{hunk_count}
use Rattle.patch_set.proofs.Named.{rows-counted}
use Rattle.patch_filters.proofs.Hits.{few-rows}
use Rattle.patch_filters.proofs.HunkTexts.{put-all, put-more}
use Rattle.patch_filters.specs.Rows.{plain, telling, texts}
use Rattle.patch_filters.specs.Told.{noted_if}
use Rattle.patch_filters.proofs.noting.put_noted_each.Goals as goal

pub hunks-hunk-end-requires : goal.hunks-hunk-end-requires
hunks-hunk-end-requires c = few-rows c.args.row.now.set.now.text c.args.row.now.row.now.change c.requires.is.lawful.change

pub put_noted_if-requires-clause-row : goal.put_noted_if-requires-clause-row
put_noted_if-requires-clause-row c = c.requires

pub put_noted_if-requires-clause-hunk : goal.put_noted_if-requires-clause-hunk
put_noted_if-requires-clause-hunk c =
    let r = c.args.row.now in
    subst (λ (n : ℕ). c.loop-hunk.hunk < n) (c.hunks-hunk-end.ensures r.set.now.text ∙ rows-counted r.set.now.text r.row.now.change) c.loop-hunk-test.true

pub loop-hunk-init : goal.loop-hunk-init
loop-hunk-init c =
    let r = c.args.row.now in
    let n = hunk_count (plain r).change in
    let e : n - 0 ≡ n = omega arith in
    ap (λ m. c.args.out.now.items ++ flat_map (noted_if (telling r) r.flags.now (plain r) (texts r)) (range_with_len 0 m)) e

pub loop-hunk-preserved : goal.loop-hunk-preserved
loop-hunk-preserved c =
    let r = c.args.row.now in
    put-more (noted_if (telling r) r.flags.now (plain r) (texts r)) (hunk_count (plain r).change) c.args.out.now.items c.loop-hunk.out.items c.put_noted_if.new.out.items c.loop-hunk.hunk
    (subst (λ (n : ℕ). c.loop-hunk.hunk < n) (c.hunks-hunk-end.ensures r.set.now.text) c.loop-hunk-test.true) c.loop-hunk.invariant c.in_ok-put_noted_if.ensures

pub returns : goal.returns
returns c =
    let r = c.args.row.now in
    put-all (noted_if (telling r) r.flags.now (plain r) (texts r)) (hunk_count (plain r).change) c.args.out.now.items c.loop-hunk.out.items c.loop-hunk.hunk
    (subst (λ (n : ℕ). n ≤ c.loop-hunk.hunk) (c.hunks-hunk-end.ensures r.set.now.text) (omega (arith, c.loop-hunk-test.false))) c.loop-hunk.invariant
