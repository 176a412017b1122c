use Rattle.std.proofs.lemmas.Result.{err_from_is_err_and}
use Rattle.outside.proofs.SinkSteps.{has-put, puts-more, puts-stop}
use Rattle.normal_form.proofs.WritingLemmas.{whole}
use Rattle.normal_form.proofs.writing.write_hunk.Goals as goal

pub returns-in_err-put_command : goal.returns-in_err-put_command
returns-in_err-put_command g c =
    let p = err_from_is_err_and c.from_residual.result c.from_residual.ensures.1 in
    rw (p.1, ← whole c.args.text.now c.args.side c.other-other.result c.args.hunk.now c.args.starts.0 c.args.starts.1 c.count-old.result c.count-new.result c.other-other.ensures c.count-old.ensures c.count-new.ensures)
    (puts-stop c.in_err-put_command.field-0.0 p.0 _ c.in_err-put_command.ensures)

pub returns-in_err-put_side : goal.returns-in_err-put_side
returns-in_err-put_side g c =
    let p = err_from_is_err_and c.from_residual-in_err-put_side.result c.from_residual-in_err-put_side.ensures.1 in
    rw (p.1, ← whole c.args.text.now c.args.side c.other-other.result c.args.hunk.now c.args.starts.0 c.args.starts.1 c.count-old.result c.count-new.result c.other-other.ensures c.count-old.ensures c.count-new.ensures)
    (puts-more g.met.O.Sink.rest_both (has-put c.in_ok-put_command.field-0 c.in_ok-put_command.ensures)
    (puts-stop c.in_err-put_side.field-0.0 p.0 _ c.in_err-put_side.ensures))

pub returns-in_err-put_divider : goal.returns-in_err-put_divider
returns-in_err-put_divider g c =
    let p = err_from_is_err_and c.from_residual-in_err-put_divider.result c.from_residual-in_err-put_divider.ensures.1 in
    rw (p.1, ← whole c.args.text.now c.args.side c.other-other.result c.args.hunk.now c.args.starts.0 c.args.starts.1 c.count-old.result c.count-new.result c.other-other.ensures c.count-old.ensures c.count-new.ensures)
    (puts-more g.met.O.Sink.rest_both (has-put c.in_ok-put_command.field-0 c.in_ok-put_command.ensures)
    (puts-more g.met.O.Sink.rest_both (has-put c.in_ok-put_side.field-0 c.in_ok-put_side.ensures)
    (puts-stop c.in_err-put_divider.field-0.0 p.0 _ (rw c.action_for.ensures at c.in_err-put_divider.ensures))))

pub returns : goal.returns
returns g c =
    rw (← whole c.args.text.now c.args.side c.other-other.result c.args.hunk.now c.args.starts.0 c.args.starts.1 c.count-old.result c.count-new.result c.other-other.ensures c.count-old.ensures c.count-new.ensures)
    (puts-more g.met.O.Sink.rest_both (has-put c.in_ok-put_command.field-0 c.in_ok-put_command.ensures)
    (puts-more g.met.O.Sink.rest_both (has-put c.in_ok-put_side.field-0 c.in_ok-put_side.ensures)
    (puts-more g.met.O.Sink.rest_both (has-put c.in_ok-put_divider.field-0 (rw c.action_for.ensures at c.in_ok-put_divider.ensures)) c.put_side-2.ensures)))

pub put_side-requires-2 : goal.put_side-requires-2
put_side-requires-2 g c = c.requires

pub put_side-requires : goal.put_side-requires
put_side-requires g c = c.requires
