use Rattle.std.proofs.Common.{◌+◌, ◌<◌, ◌≤◌, ℕ, List, drop, length, ap, subst}
use Rattle.std.specs.List.{flat_map}
use Rattle.std.proofs.lemmas.Result.{err_from_is_err_and}
use Rattle.cli_tool_words.specs.PlainJobs.{plain_filter_job}
use Rattle.format_convert.proofs.Parts.{Written, written-all, written-more, written-none, written-stop}
use Rattle.line_list.proofs.Elements.{there-is}
use Rattle.format_convert.specs.Converted.{converted, rows, written_if}
use Rattle.format_convert.proofs.RowLemmas.{converted-is, next-text, rows-end, patch-fits, patch-in, patch-out}
use Rattle.format_convert.proofs.writing.put_converted.Goals as goal

pub loop-patch-init : goal.loop-patch-init
loop-patch-init g c =
    let j = plain_filter_job c.args.job.now in
    let v = c.args.set.now in
    subst (λ (bs : List ℕ). Written g.O.Sink.view g.O.Sink.same_rest c.args.out.now c.args.out.now (converted c.args.form j v) bs) (converted-is c.args.form j v) (written-none g.met.O.Sink.rest_none c.args.out.now (converted c.args.form j v))

pub loop-patch-preserved : goal.loop-patch-preserved
loop-patch-preserved g c =
    let j = plain_filter_job c.args.job.now in
    let v = c.args.set.now in
    let i = c.loop-patch.patch in
    let lt : i < length v.patches = patch-in _ _ i c.loop-patch-test.true c.patches-patch-end.ensures.patches in
    let p = there-is v.patches i lt in
    written-more g.met.O.Sink.rest_both c.loop-patch.invariant (written_if c.args.form j v.text (i, p.0)) (flat_map (written_if c.args.form j v.text) (drop (i + 1) (rows v)))
    (next-text c.args.form j v i p.0 lt p.1) c.in_ok-put_if_kept.field-0 (c.in_ok-put_if_kept.ensures p.0 p.1)

pub returns-in_err-put_if_kept : goal.returns-in_err-put_if_kept
returns-in_err-put_if_kept g c =
    let q = err_from_is_err_and c.from_residual.result c.from_residual.ensures.1 in
    let j = plain_filter_job c.args.job.now in
    let v = c.args.set.now in
    let i = c.loop-patch.patch in
    let lt : i < length v.patches = patch-in _ _ i c.loop-patch-test.true c.patches-patch-end.ensures.patches in
    let p = there-is v.patches i lt in
    rw q.1 (written-stop g.met.O.Sink.rest_both c.loop-patch.invariant (written_if c.args.form j v.text (i, p.0)) (flat_map (written_if c.args.form j v.text) (drop (i + 1) (rows v)))
    (next-text c.args.form j v i p.0 lt p.1) c.in_err-put_if_kept.field-0.0 q.0 (c.in_err-put_if_kept.ensures p.0 p.1))

pub returns : goal.returns
returns g c =
    let j = plain_filter_job c.args.job.now in
    let v = c.args.set.now in
    let le : length v.patches ≤ c.loop-patch.patch = patch-out _ _ c.loop-patch.patch c.loop-patch-test.false c.patches-patch-end.ensures.patches in
    written-all _ c.loop-patch.invariant (ap (flat_map (written_if c.args.form j v.text)) (rows-end v c.loop-patch.patch le))

pub put_if_kept-requires : goal.put_if_kept-requires
put_if_kept-requires g c = patch-in _ _ c.loop-patch.patch c.loop-patch-test.true c.patches-patch-end.ensures.patches

pub overflow_cast-patch : goal.overflow_cast-patch
overflow_cast-patch g c = patch-fits _ _ c.loop-patch.patch c.loop-patch-test.true c.patches-patch-end.ensures.patches c.patches-patch-end.ensures.whole.count
