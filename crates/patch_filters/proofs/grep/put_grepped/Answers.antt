use Rattle.std.proofs.Common.{[], ◌≡◌, ◌<◌, List, length, subst, arith}
use Rattle.read_file_patch.specs.declared.FilePatch.{FilePatch}
use Rattle.cli_tool_words.specs.PlainJobs.{plain_grep_job}
use Rattle.line_list.proofs.Elements.{there-is}
use Rattle.patch_filters.specs.Grepped.{test_of, text_if_found}
use Rattle.patch_filters.proofs.Searching.{still-kept}
use Rattle.patch_filters.proofs.Finding.{by-first, ends-in, found-ends, found-goes-on, found-none, found-stops}
use Rattle.patch_filters.proofs.Hits.{grepped-is}
use Rattle.patch_filters.proofs.grep.put_grepped.Goals as goal

pub put_if_found-requires-clause-kept : goal.put_if_found-requires-clause-kept
put_if_found-requires-clause-kept g c = still-kept c.loop-patch.invariant.finder c.requires.kept

pub loop-patch-init : goal.loop-patch-init
loop-patch-init g c = found-none g.met.O.Sink.rest_none (g.F.Finder.view c.args.finder.now) c.args.out.now

pub loop-patch-preserved : goal.loop-patch-preserved
loop-patch-preserved g c =
    let j = plain_grep_job c.args.job.now in
    let v = c.args.set.now in
    let hit = test_of (g.F.Finder.view c.args.finder.now) in
    let i = c.loop-patch.patch in
    let lt : i < length v.patches = subst (λ (ps : List FilePatch). i < length ps) c.patches-patch-end.ensures.patches (omega (arith, c.loop-patch-test.true)) in
    let p = there-is v.patches i lt in
    let put = by-first (λ hit. text_if_found hit j v.text p.0) c.loop-patch.invariant.finder (c.in_ok-put_if_found.ensures p.0 p.1) in
    found-goes-on (text_if_found hit j v.text) v.patches g.met.O.Sink.rest_both [] i p.0 c.in_ok-put_if_found.field-0 lt p.1 c.loop-patch.invariant put

pub returns-in_err-put_if_found : goal.returns-in_err-put_if_found
returns-in_err-put_if_found g c =
    let j = plain_grep_job c.args.job.now in
    let v = c.args.set.now in
    let hit = test_of (g.F.Finder.view c.args.finder.now) in
    let i = c.loop-patch.patch in
    let lt : i < length v.patches = subst (λ (ps : List FilePatch). i < length ps) c.patches-patch-end.ensures.patches (omega (arith, c.loop-patch-test.true)) in
    let p = there-is v.patches i lt in
    let put = by-first (λ hit. text_if_found hit j v.text p.0) c.loop-patch.invariant.finder (c.in_err-put_if_found.ensures p.0 p.1) in
    rw (grepped-is hit j v) (ends-in c.from_residual.result c.in_err-put_if_found.field-0.0 c.from_residual.ensures.1
    (found-stops (text_if_found hit j v.text) v.patches g.met.O.Sink.rest_both [] i p.0 c.in_err-put_if_found.field-0.0 lt p.1 c.loop-patch.invariant put))

pub returns : goal.returns
returns g c =
    let j = plain_grep_job c.args.job.now in
    let v = c.args.set.now in
    let hit = test_of (g.F.Finder.view c.args.finder.now) in
    let i = c.loop-patch.patch in
    let all : i ≡ length v.patches = subst (λ (ps : List FilePatch). i ≡ length ps) c.patches-patch-end.ensures.patches (omega (arith, c.loop-patch-test.false, c.loop-patch.auto.patch-end)) in
    rw (grepped-is hit j v) (found-ends (text_if_found hit j v.text) v.patches g.met.O.Sink.rest_both [] i tt all c.loop-patch.invariant)

pub put_if_found-requires-clause-within : goal.put_if_found-requires-clause-within
put_if_found-requires-clause-within g c = subst (λ (ps : List FilePatch). c.loop-patch.patch < length ps) c.patches-patch-end.ensures.patches (omega (arith, c.loop-patch-test.true))

pub overflow_cast-patch : goal.overflow_cast-patch
overflow_cast-patch g c =
    let lt = subst (λ (ps : List FilePatch). c.loop-patch.patch < length ps) c.patches-patch-end.ensures.patches (omega (arith, c.loop-patch-test.true)) in
    omega (arith, lt, c.patches-patch-end.ensures.whole.count)
