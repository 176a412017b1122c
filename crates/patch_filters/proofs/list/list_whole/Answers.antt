use Rattle.std.proofs.Common.{Ok, ◌≡◌, suc, ◌<◌, length, arith, List, subst}
use Rattle.std.proofs.lemmas.Result.{err_from_is_err_and}
use Rattle.cli_tool_words.specs.PlainJobs.{plain_list_job}
use Rattle.line_list.proofs.Elements.{there-is}
use Rattle.filter_choice.specs.Selected.{numbered}
use Rattle.filter_choice.proofs.Rows.{numbered-at, numbered-count}
use Rattle.patch_filters.specs.Listed.{lines_if_selected, listed_whole}
use Rattle.outside.specs.Puts.{Puts}
use Rattle.outside.specs.declared.Failed.{Failed}
use Rattle.outside.proofs.Loops.{goes-on, stops, ends}
use Rattle.patch_filters.proofs.Rows.{listed-whole-is}
use Rattle.outside.proofs.SinkSteps.{has-none}
use Rattle.read_file_patch.specs.declared.FilePatch.{FilePatch}
use Rattle.patch_filters.proofs.list.list_whole.Goals as goal

pub returns-in_err-put_whole_if_selected : goal.returns-in_err-put_whole_if_selected
returns-in_err-put_whole_if_selected g c =
    let j = plain_list_job c.args.job.now in
    let v = c.args.set.now in
    let i = c.loop-patch.patch in
    let lt : i < length v.patches = subst (λ (ps : List FilePatch). i < length ps) c.patches-patch-end.ensures.patches (omega (arith, c.loop-patch-test.true)) in
    let at = there-is v.patches i lt in
    let row = numbered-at v.patches i at.0 at.1 in
    let within : i < length (numbered v.patches) = omega (arith, lt, numbered-count v.patches) in
    let q = err_from_is_err_and c.from_residual.result c.from_residual.ensures.1 in
    let p : Puts g.O.Sink.view g.O.Sink.same_rest c.args.out.now c.put_whole_if_selected.new.out c.from_residual.result (listed_whole j v) =
    rw (q.1, listed-whole-is j v) (stops (lines_if_selected j v.text) (numbered v.patches) g.met.O.Sink.rest_both i (suc i, at.0) c.in_err-put_whole_if_selected.field-0.0 q.0 within row c.loop-patch.invariant (c.in_err-put_whole_if_selected.ensures at.0 at.1)) in
    record { writes = record { call = p.call; received = p.received; failed = p.failed }; rest = p.rest }

pub loop-patch-preserved : goal.loop-patch-preserved
loop-patch-preserved g c =
    let j = plain_list_job c.args.job.now in
    let v = c.args.set.now in
    let i = c.loop-patch.patch in
    let lt : i < length v.patches = subst (λ (ps : List FilePatch). i < length ps) c.patches-patch-end.ensures.patches (omega (arith, c.loop-patch-test.true)) in
    let at = there-is v.patches i lt in
    let row = numbered-at v.patches i at.0 at.1 in
    let within : i < length (numbered v.patches) = omega (arith, lt, numbered-count v.patches) in
    goes-on (lines_if_selected j v.text) (numbered v.patches) g.met.O.Sink.rest_both i (suc i, at.0) c.in_ok-put_whole_if_selected.field-0 within row c.loop-patch.invariant (c.in_ok-put_whole_if_selected.ensures at.0 at.1)

pub returns : goal.returns
returns g c =
    let j = plain_list_job c.args.job.now in
    let v = c.args.set.now in
    let i = c.loop-patch.patch in
    let all : i ≡ length v.patches = subst (λ (ps : List FilePatch). i ≡ length ps) c.patches-patch-end.ensures.patches (omega (arith, c.loop-patch-test.false, c.loop-patch.auto.patch-end)) in
    let p : Puts {R = Unit {0}} {E = Failed} g.O.Sink.view g.O.Sink.same_rest c.args.out.now c.loop-patch.out (Ok tt) (listed_whole j v) =
    rw (listed-whole-is j v) (ends (lines_if_selected j v.text) (numbered v.patches) g.met.O.Sink.rest_both i _ (omega (arith, all, numbered-count v.patches)) c.loop-patch.invariant) in
    record { writes = record { call = p.call; received = p.received; failed = p.failed }; rest = p.rest }

pub loop-patch-init : goal.loop-patch-init
loop-patch-init g c = has-none g.met.O.Sink.rest_none c.args.out.now

pub put_whole_if_selected-requires : goal.put_whole_if_selected-requires
put_whole_if_selected-requires g c = subst (λ (ps : List FilePatch). c.loop-patch.patch < length ps) c.patches-patch-end.ensures.patches (omega (arith, c.loop-patch-test.true))

pub overflow_cast-patch : goal.overflow_cast-patch
overflow_cast-patch g c =
    let lt = subst (λ (ps : List FilePatch). c.loop-patch.patch < length ps) c.patches-patch-end.ensures.patches (omega (arith, c.loop-patch-test.true)) in
    omega (arith, lt, c.patches-patch-end.ensures.whole.count)
