use Rattle.std.proofs.Common.{◌+◌, ◌<◌, ◌≤◌, ℕ, Bool, cond, Some, drop, length, sym, ap, ◌∙◌}
use Rattle.std.specs.List.{flat_map}
use Rattle.read_file_patch.specs.PlainPatch.{first_opening}
use Rattle.cli_tool_words.specs.PlainJobs.{plain_filter_job}
use Rattle.line_list.proofs.Elements.{there-is}
use Rattle.format_convert.specs.Converted.{rows}
use Rattle.format_convert.specs.Refusals.{is_unfit}
use Rattle.format_convert.proofs.RowLemmas.{row_if, last-first, left-is, next-first, patch-fits, patch-in, patch-out}
use Rattle.format_convert.proofs.refusing.first_unfit.Goals as goal

pub loop-patch-init : goal.loop-patch-init
loop-patch-init c = ap (first_opening (is_unfit c.args.form)) (left-is (plain_filter_job c.args.job.now) c.args.set.now)

pub loop-patch-preserved : goal.loop-patch-preserved
loop-patch-preserved c =
    let j = plain_filter_job c.args.job.now in
    let v = c.args.set.now in
    let i = c.loop-patch.patch in
    let lt : i < length v.patches = patch-in _ _ i c.loop-patch-test.true c.patches-patch-end.ensures.patches in
    let p = there-is v.patches i lt in
    let rest = first_opening (is_unfit c.args.form) (flat_map (row_if j v.text) (drop (i + 1) (rows v))) in
    let flag = ap (λ (b : Bool). b) (sym (c.is_misfit.ensures p.0 p.1)) ∙ c.if-is_misfit.false in
    c.loop-patch.invariant ∙ next-first (is_unfit c.args.form) j v i p.0 lt p.1
    ∙ ap (λ (b : Bool). cond b (Some p.0.header.opening) rest) (flag)

pub returns-then-is_misfit : goal.returns-then-is_misfit
returns-then-is_misfit c =
    let j = plain_filter_job c.args.job.now in
    let v = c.args.set.now in
    let i = c.loop-patch.patch in
    let lt : i < length v.patches = patch-in _ _ i c.loop-patch-test.true c.patches-patch-end.ensures.patches in
    let p = there-is v.patches i lt in
    let rest = first_opening (is_unfit c.args.form) (flat_map (row_if j v.text) (drop (i + 1) (rows v))) in
    let flag = ap (λ (b : Bool). b) (sym (c.is_misfit.ensures p.0 p.1)) ∙ c.if-is_misfit.true in
    ap (λ (n : ℕ). Some n) (c.opening.ensures p.0 p.1)
    ∙ sym (c.loop-patch.invariant ∙ next-first (is_unfit c.args.form) j v i p.0 lt p.1
    ∙ ap (λ (b : Bool). cond b (Some p.0.header.opening) rest) (flag))

pub returns : goal.returns
returns c =
    let j = plain_filter_job c.args.job.now in
    let v = c.args.set.now in
    let le : length v.patches ≤ c.loop-patch.patch = patch-out _ _ c.loop-patch.patch c.loop-patch-test.false c.patches-patch-end.ensures.patches in
    sym (c.loop-patch.invariant ∙ last-first (is_unfit c.args.form) j v c.loop-patch.patch le)

pub opening-requires : goal.opening-requires
opening-requires c = patch-in _ _ c.loop-patch.patch c.loop-patch-test.true c.patches-patch-end.ensures.patches

pub overflow_cast-patch-then-is_misfit : goal.overflow_cast-patch-then-is_misfit
overflow_cast-patch-then-is_misfit c = patch-fits _ _ c.loop-patch.patch c.loop-patch-test.true c.patches-patch-end.ensures.patches c.patches-patch-end.ensures.whole.count

pub is_misfit-requires : goal.is_misfit-requires
is_misfit-requires c = patch-in _ _ c.loop-patch.patch c.loop-patch-test.true c.patches-patch-end.ensures.patches

pub overflow_cast-patch : goal.overflow_cast-patch
overflow_cast-patch c = patch-fits _ _ c.loop-patch.patch c.loop-patch-test.true c.patches-patch-end.ensures.patches c.patches-patch-end.ensures.whole.count
