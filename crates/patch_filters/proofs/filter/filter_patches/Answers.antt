use Rattle.std.proofs.Common.{Ok, ◌≡◌, suc, ◌<◌, List, length, sym, subst, arith}
use Rattle.std.specs.List.{zip}
use Rattle.std.proofs.lemmas.Result.{err_from_is_err_and}
use Rattle.read_file_patch.specs.declared.FilePatch.{FilePatch}
use Rattle.cli_tool_words.specs.PlainJobs.{plain_filter_job}
use Rattle.line_list.proofs.Elements.{there-is}
use Rattle.outside.specs.Puts.{Puts}
use Rattle.outside.specs.declared.Failed.{Failed}
use Rattle.outside.proofs.Loops.{goes-on, stops, ends}
use Rattle.filter_choice.proofs.Digests.{digests-count}
use Rattle.filter_choice.specs.Selected.{numbered}
use Rattle.patch_filters.specs.Digested.{digest_if_taken, filtered_digest}
use Rattle.patch_filters.proofs.Digesting.{filtered-digest-is}
use Rattle.filter_choice.proofs.Rows.{numbered-at, numbered-count, zip-at, zip-count}
use Rattle.outside.proofs.SinkSteps.{has-none}
use Rattle.patch_filters.proofs.filter.filter_patches.Goals as goal

pub put_if_taken-requires-clause-few : goal.put_if_taken-requires-clause-few
put_if_taken-requires-clause-few g c = omega (arith, c.loop-patch-test.true, c.patches-patch-end.type_inv.0)

pub returns-in_err-put_if_taken : goal.returns-in_err-put_if_taken
returns-in_err-put_if_taken g c =
    let j = plain_filter_job c.args.job.now in
    let v = c.args.digest.now in
    let i = c.loop-patch.patch in
    let xs = zip v.patches v.olds in
    let same = digests-count v.text v.patches v.olds c.patches-patch-end.ensures.are in
    let count = zip-count v.patches v.olds (sym same) in
    let lt : i < length v.patches = subst (λ (ps : List FilePatch). i < length ps) c.patches-patch-end.ensures.patches (omega (arith, c.loop-patch-test.true)) in
    let at = there-is v.patches i lt in
    let own = there-is v.olds i (omega (arith, lt, same)) in
    let row = numbered-at xs i (at.0, own.0) (zip-at v.patches v.olds i at.0 own.0 at.1 own.1) in
    let within : i < length (numbered xs) = omega (arith, lt, same, count, numbered-count xs) in
    let q = err_from_is_err_and c.from_residual.result c.from_residual.ensures.1 in
    let p : Puts g.O.Sink.view g.O.Sink.same_rest c.args.out.now c.put_if_taken.new.out c.from_residual.result (filtered_digest j v) =
    rw (q.1, filtered-digest-is j v) (stops (digest_if_taken j v.text) (numbered xs) g.met.O.Sink.rest_both i (suc i, (at.0, own.0)) c.in_err-put_if_taken.field-0.0 q.0 within row c.loop-patch.invariant (c.in_err-put_if_taken.ensures at.0 at.1 own.0 own.1)) in
    record { writes = record { call = p.call; received = p.received; failed = p.failed }; rest = p.rest }

pub loop-patch-preserved : goal.loop-patch-preserved
loop-patch-preserved g c =
    let j = plain_filter_job c.args.job.now in
    let v = c.args.digest.now in
    let i = c.loop-patch.patch in
    let xs = zip v.patches v.olds in
    let same = digests-count v.text v.patches v.olds c.patches-patch-end.ensures.are in
    let count = zip-count v.patches v.olds (sym same) in
    let lt : i < length v.patches = subst (λ (ps : List FilePatch). i < length ps) c.patches-patch-end.ensures.patches (omega (arith, c.loop-patch-test.true)) in
    let at = there-is v.patches i lt in
    let own = there-is v.olds i (omega (arith, lt, same)) in
    let row = numbered-at xs i (at.0, own.0) (zip-at v.patches v.olds i at.0 own.0 at.1 own.1) in
    let within : i < length (numbered xs) = omega (arith, lt, same, count, numbered-count xs) in
    goes-on (digest_if_taken j v.text) (numbered xs) g.met.O.Sink.rest_both i (suc i, (at.0, own.0)) c.in_ok-put_if_taken.field-0 within row c.loop-patch.invariant (c.in_ok-put_if_taken.ensures at.0 at.1 own.0 own.1)

pub returns : goal.returns
returns g c =
    let j = plain_filter_job c.args.job.now in
    let v = c.args.digest.now in
    let i = c.loop-patch.patch in
    let xs = zip v.patches v.olds in
    let same = digests-count v.text v.patches v.olds c.patches-patch-end.ensures.are in
    let count = zip-count v.patches v.olds (sym same) in
    let all : i ≡ length v.patches = subst (λ (ps : List FilePatch). i ≡ length ps) c.patches-patch-end.ensures.patches (omega (arith, c.loop-patch-test.false, c.loop-patch.auto.patch-end)) in
    let p : Puts {R = Unit {0}} {E = Failed} g.O.Sink.view g.O.Sink.same_rest c.args.out.now c.loop-patch.out (Ok tt) (filtered_digest j v) =
    rw (filtered-digest-is j v) (ends (digest_if_taken j v.text) (numbered xs) g.met.O.Sink.rest_both i _ (omega (arith, all, same, count, numbered-count xs)) c.loop-patch.invariant) in
    record { writes = record { call = p.call; received = p.received; failed = p.failed }; rest = p.rest }

pub loop-patch-init : goal.loop-patch-init
loop-patch-init g c = has-none g.met.O.Sink.rest_none c.args.out.now

pub put_if_taken-requires-clause-within : goal.put_if_taken-requires-clause-within
put_if_taken-requires-clause-within g c = subst (λ (ps : List FilePatch). c.loop-patch.patch < length ps) c.patches-patch-end.ensures.patches (omega (arith, c.loop-patch-test.true))
