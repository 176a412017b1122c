use Rattle.std.proofs.Common.{◌≡◌, ◌<◌, Some, length, sym, ap, ◌∙◌, rules}
use Rattle.std.proofs.lemmas.Result.{err_from_is_err_and}
use Rattle.std.proofs.lemmas.Option.{slice_get-get_or}
use Rattle.outside.proofs.Loops.{goes-on, stops, ends}
use Rattle.patch_options.specs.PlainJob.{plain_options}
use Rattle.apply_start.specs.Skipping.{change_line, changes_said}
use Rattle.apply_start.proofs.skipping.put_changes.Goals as goal

pub returns-in_err-put_change : goal.returns-in_err-put_change
unfolding changes_said
returns-in_err-put_change g c =
    let i = c.loop-change.change-index in
    let lt : i < length c.args.changes.now = c.loop-change-test.true in
    let q = err_from_is_err_and c.from_residual.result c.from_residual.ensures.1 in
    rw q.1 (stops (change_line (plain_options c.args.options.now)) c.args.changes.now g.met.O.Sink.rest_both i _ c.in_err-put_change.field-0.0 q.0 lt (slice_get-get_or c.args.changes.now i c.change-item.result lt ∙ ap Some (sym c.change-item.is)) c.loop-change.invariant c.in_err-put_change.ensures)

pub loop-change-preserved : goal.loop-change-preserved
loop-change-preserved g c =
    let i = c.loop-change.change-index in
    let lt : i < length c.args.changes.now = c.loop-change-test.true in
    goes-on (change_line (plain_options c.args.options.now)) c.args.changes.now g.met.O.Sink.rest_both i _ c.in_ok-put_change.field-0 lt (slice_get-get_or c.args.changes.now i c.change-item.result lt ∙ ap Some (sym c.change-item.is)) c.loop-change.invariant c.in_ok-put_change.ensures

pub returns : goal.returns
unfolding changes_said
returns g c =
    let i = c.loop-change.change-index in
    let all : i ≡ length c.args.changes.now = search rules in
    ends (change_line (plain_options c.args.options.now)) c.args.changes.now g.met.O.Sink.rest_both i _ all c.loop-change.invariant
