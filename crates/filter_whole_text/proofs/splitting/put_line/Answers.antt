use Rattle.std.proofs.Common.{◌≡◌, [], ◌∷◌, Err, ◌∙◌, subst}
use Rattle.std.proofs.lemmas.Result.{err_from_is_err_and}
use Rattle.outside.specs.Puts.{Puts}
use Rattle.outside.proofs.SinkSteps.{HasPut, puts-more, puts-stop}
use Rattle.filter_whole_text.proofs.splitting.put_line.Goals as goal

pub returns-in_err-put_all : goal.returns-in_err-put_all
returns-in_err-put_all g c =
    let p = err_from_is_err_and c.from_residual.result c.from_residual.ensures.1 in
    let e = c.in_err-put_all.ensures in
    let named : c.as_bytes.result.now ≡ c.args.name.now = c.as_bytes.ensures.value ∙ c.text.ensures.text in
    rw p.1 (puts-stop c.in_err-put_all.field-0.0 p.0 (10 ∷ [])
    (subst (Puts {R = Unit {0}} g.O.Sink.view g.O.Sink.same_rest c.args.out.now c.put_all.new.out (Err c.in_err-put_all.field-0.0)) named (record { call = e.call; rest = e.rest; received = tt; failed = e.failed })))

pub returns : goal.returns
returns g c =
    let e = c.in_ok-put_all.ensures in
    let h = c.put_all-2.ensures in
    let named : c.as_bytes.result.now ≡ c.args.name.now = c.as_bytes.ensures.value ∙ c.text.ensures.text in
    puts-more g.met.O.Sink.rest_both
    (subst (HasPut g.O.Sink.view g.O.Sink.same_rest c.args.out.now c.put_all.new.out) named (record { passes = e.call.passes; rest = e.rest; received = e.received }))
    (record { call = h.call; rest = h.rest; received = h.received; failed = h.failed })
