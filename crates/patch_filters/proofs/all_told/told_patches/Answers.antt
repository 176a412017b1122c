use Rattle.std.proofs.Common.{◌<◌, ◌≤◌, ◌++◌, ◌∙◌, List, ap, arith, length, subst}
use Rattle.std.specs.List.{flat_map}
use Rattle.line_list.proofs.Elements.{there-is}
use Rattle.read_file_patch.specs.declared.FilePatch.{FilePatch}
use Rattle.cli_tool_words.specs.PlainJobs.{plain_filter_job}
use Rattle.patch_filters.specs.Told.{ends_of, text_behind, told, told_if}
use Rattle.patch_filters.proofs.HunkTexts.{rows, rows-all, rows-more}
use Rattle.patch_filters.proofs.all_told.told_patches.Goals as goal

pub put_told_at-requires : goal.put_told_at-requires
put_told_at-requires c = subst (λ (ps : List FilePatch). c.loop-patch.patch < length ps) c.patches-patch-end.ensures.patches (omega (arith, c.loop-patch-test.true))

pub overflow_cast-patch : goal.overflow_cast-patch
overflow_cast-patch c =
    let lt = subst (λ (ps : List FilePatch). c.loop-patch.patch < length ps) c.patches-patch-end.ensures.patches (omega (arith, c.loop-patch-test.true)) in
    omega (arith, lt, c.patches-patch-end.ensures.whole.count)

pub loop-patch-init : goal.loop-patch-init
loop-patch-init c = ap (λ l. l ++ flat_map (told_if (plain_filter_job c.args.job.now) c.args.set.now.text) (rows c.args.set.now.patches)) c.new-out.ensures.items

pub loop-patch-preserved : goal.loop-patch-preserved
loop-patch-preserved c =
    let v = c.args.set.now in
    let i = c.loop-patch.patch in
    let lt : i < length v.patches = subst (λ (ps : List FilePatch). i < length ps) c.patches-patch-end.ensures.patches (omega (arith, c.loop-patch-test.true)) in
    let at = there-is v.patches i lt in
    rows-more (told_if (plain_filter_job c.args.job.now) v.text) v.patches c.loop-patch.out.items c.put_told_at.new.out.items _ i at.0 lt at.1 c.loop-patch.invariant (c.in_ok-put_told_at.ensures at.0 at.1)

pub returns : goal.returns
unfolding told
returns c =
    let j = plain_filter_job c.args.job.now in
    let v = c.args.set.now in
    c.in_ok-put_behind.ensures
    ∙ ap (λ l. l ++ text_behind j.verbose v.text (ends_of v.patches))
    (rows-all (told_if j v.text) v.patches c.loop-patch.out.items _ c.loop-patch.patch
    (subst (λ (ps : List FilePatch). length ps ≤ c.loop-patch.patch) c.patches-patch-end.ensures.patches (omega (arith, c.loop-patch-test.false))) c.loop-patch.invariant)
