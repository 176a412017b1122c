use Rattle.std.proofs.Common.{Ok, ◌≡◌, suc, ◌<◌, length, map, ap, ◌∙◌, arith, List, subst}
use Rattle.std.proofs.lemmas.Result.{err_from_is_err_and}
use Rattle.std.specs.Prelude.{option_map}
use Rattle.std.proofs.lemmas.List.{length-map}
use Rattle.std.proofs.lemmas.Option.{slice_get-map}
use Rattle.read_file_patch.specs.PlainPatch.{patch_of}
use Rattle.cli_tool_words.specs.PlainJobs.{plain_list_job}
use Rattle.line_list.proofs.Elements.{there-is}
use Rattle.filter_choice.specs.Selected.{numbered}
use Rattle.filter_choice.proofs.Rows.{numbered-at, numbered-count}
use Rattle.patch_filters.specs.Listed.{line_if_selected, listed}
use Rattle.outside.specs.Puts.{Puts}
use Rattle.outside.specs.declared.Failed.{Failed}
use Rattle.outside.proofs.Loops.{goes-on, stops, ends}
use Rattle.patch_filters.proofs.Rows.{listed-is}
use Rattle.outside.proofs.SinkSteps.{has-none}
use Rattle.read_file_patch.specs.declared.FilePatch.{FilePatch}
use Rattle.patch_filters.proofs.list.list_patches.Goals as goal

pub returns-in_err-put_if_selected : goal.returns-in_err-put_if_selected
returns-in_err-put_if_selected g c =
    let j = plain_list_job c.args.job.now in
    let text = c.args.outline.now.text in
    let ps = c.args.outline.now.patches in
    let i = c.loop-patch.patch in
    let lt : i < length ps = subst (λ (l : List FilePatch). i < length l) c.patches-patch-end.ensures.patches (omega (arith, c.loop-patch-test.true)) in
    let at = there-is ps i lt in
    let rows = map (patch_of text) ps in
    let row = numbered-at rows i (patch_of text at.0) (slice_get-map (patch_of text) ps i ∙ ap (option_map (patch_of text)) at.1) in
    let within : i < length (numbered rows) = omega (arith, lt, length-map ps (patch_of text), numbered-count rows) in
    let q = err_from_is_err_and c.from_residual.result c.from_residual.ensures.1 in
    let p : Puts g.O.Sink.view g.O.Sink.same_rest c.args.out.now c.put_if_selected.new.out c.from_residual.result (listed j (map (patch_of text) ps)) =
    rw (q.1, listed-is j (map (patch_of text) ps)) (stops (line_if_selected j) (numbered rows) g.met.O.Sink.rest_both i (suc i, patch_of text at.0) c.in_err-put_if_selected.field-0.0 q.0 within row c.loop-patch.invariant (c.in_err-put_if_selected.ensures at.0 at.1)) in
    record { writes = record { call = p.call; received = p.received; failed = p.failed }; rest = p.rest }

pub loop-patch-preserved : goal.loop-patch-preserved
loop-patch-preserved g c =
    let j = plain_list_job c.args.job.now in
    let text = c.args.outline.now.text in
    let ps = c.args.outline.now.patches in
    let i = c.loop-patch.patch in
    let lt : i < length ps = subst (λ (l : List FilePatch). i < length l) c.patches-patch-end.ensures.patches (omega (arith, c.loop-patch-test.true)) in
    let at = there-is ps i lt in
    let rows = map (patch_of text) ps in
    let row = numbered-at rows i (patch_of text at.0) (slice_get-map (patch_of text) ps i ∙ ap (option_map (patch_of text)) at.1) in
    let within : i < length (numbered rows) = omega (arith, lt, length-map ps (patch_of text), numbered-count rows) in
    goes-on (line_if_selected j) (numbered rows) g.met.O.Sink.rest_both i (suc i, patch_of text at.0) c.in_ok-put_if_selected.field-0 within row c.loop-patch.invariant (c.in_ok-put_if_selected.ensures at.0 at.1)

pub returns : goal.returns
returns g c =
    let j = plain_list_job c.args.job.now in
    let text = c.args.outline.now.text in
    let ps = c.args.outline.now.patches in
    let i = c.loop-patch.patch in
    let all : i ≡ length ps = subst (λ (l : List FilePatch). i ≡ length l) c.patches-patch-end.ensures.patches (omega (arith, c.loop-patch-test.false, c.loop-patch.auto.patch-end)) in
    let rows = map (patch_of text) ps in
    let p : Puts {R = Unit {0}} {E = Failed} g.O.Sink.view g.O.Sink.same_rest c.args.out.now c.loop-patch.out (Ok tt) (listed j (map (patch_of text) ps)) =
    rw (listed-is j (map (patch_of text) ps)) (ends (line_if_selected j) (numbered rows) g.met.O.Sink.rest_both i _ (omega (arith, all, length-map ps (patch_of text), numbered-count rows)) c.loop-patch.invariant) in
    record { writes = record { call = p.call; received = p.received; failed = p.failed }; rest = p.rest }

pub loop-patch-init : goal.loop-patch-init
loop-patch-init g c = has-none g.met.O.Sink.rest_none c.args.out.now

pub put_if_selected-requires-clause-few : goal.put_if_selected-requires-clause-few
put_if_selected-requires-clause-few g c = omega (arith, c.loop-patch-test.true, c.patches-patch-end.type_inv.0)

pub put_if_selected-requires-clause-within : goal.put_if_selected-requires-clause-within
put_if_selected-requires-clause-within g c = subst (λ (ps : List FilePatch). c.loop-patch.patch < length ps) c.patches-patch-end.ensures.patches (omega (arith, c.loop-patch-test.true))
