use Rattle.std.proofs.Common.{◌++◌}
use Rattle.std.proofs.lemmas.Result.{err_from_is_err_and}
use Rattle.outside.proofs.SinkSteps.{has-put, puts-more, puts-stop}
use Rattle.patch_header.specs.Written.{name_end}
use Rattle.reject_text.proofs.header.put_name_line.Goals as goal

pub returns-in_err-put_all : goal.returns-in_err-put_all
returns-in_err-put_all g c =
    let p = err_from_is_err_and c.from_residual.result c.from_residual.ensures.1 in
    let first = c.in_err-put_all.ensures in
    rw p.1 (puts-stop c.in_err-put_all.field-0.0 p.0 (c.args.name.now ++ name_end c.args.name.now) (record { call = first.call; rest = first.rest; received = first.received; failed = first.failed }))

pub returns-in_err-put_all-2 : goal.returns-in_err-put_all-2
returns-in_err-put_all-2 g c =
    let p = err_from_is_err_and c.from_residual-in_err-put_all-2.result c.from_residual-in_err-put_all-2.ensures.1 in
    let first = c.in_ok-put_all.ensures in
    let second = c.in_err-put_all-2.ensures in
    rw p.1 (puts-more g.met.O.Sink.rest_both (has-put c.in_ok-put_all.field-0 (record { call = first.call; rest = first.rest; received = first.received; failed = first.failed }))
    (puts-stop c.in_err-put_all-2.field-0.0 p.0 (name_end c.args.name.now) (record { call = second.call; rest = second.rest; received = second.received; failed = second.failed })))

pub returns : goal.returns
returns g c =
    let first = c.in_ok-put_all.ensures in
    let second = c.in_ok-put_all-2.ensures in
    let third = c.put_all-3.ensures in
    rw (← c.name_end.ensures) (puts-more g.met.O.Sink.rest_both (has-put c.in_ok-put_all.field-0 (record { call = first.call; rest = first.rest; received = first.received; failed = first.failed }))
    (puts-more g.met.O.Sink.rest_both (has-put c.in_ok-put_all-2.field-0 (record { call = second.call; rest = second.rest; received = second.received; failed = second.failed }))
    (record { call = third.call; rest = third.rest; received = third.received; failed = third.failed })))
