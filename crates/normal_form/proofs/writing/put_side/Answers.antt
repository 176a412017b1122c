use Rattle.std.proofs.Common.{◌<◌, ◌≤◌, ◌+◌, drop, length, subst, rules}
use Rattle.std.proofs.lemmas.Result.{err_from_is_err_and}
use Rattle.std.proofs.lemmas.List.{take_all}
use Rattle.outside.proofs.SinkSteps.{HasPut, has-none, has-put, has-more, puts-more, puts-stop, puts-done}
use Rattle.normal_form.proofs.WritingLemmas.{written, put-more, cut-off}
use Rattle.normal_form.proofs.writing.put_side.Goals as goal

pub loop-i-init : goal.loop-i-init
loop-i-init g c = has-none g.met.O.Sink.rest_none c.args.out.now

pub returns-in_err-put_if : goal.returns-in_err-put_if
returns-in_err-put_if g c =
    let p = err_from_is_err_and c.from_residual.result c.from_residual.ensures.1 in
    let items = c.args.hunk.now.body.items in
    let lt : c.loop-i.i < length items = search rules in
    rw (p.1, ← cut-off c.args.text.now c.args.on c.args.side items c.loop-i.i c.index.result.now lt c.index.ensures)
    (puts-stop c.in_err-put_if.field-0.0 p.0 (written c.args.text.now c.args.on c.args.side (drop (c.loop-i.i + 1) items)) (puts-more g.met.O.Sink.rest_both c.loop-i.invariant c.in_err-put_if.ensures))

pub loop-i-preserved : goal.loop-i-preserved
loop-i-preserved g c =
    let items = c.args.hunk.now.body.items in
    let lt : c.loop-i.i < length items = search rules in
    rw (← put-more c.args.text.now c.args.on c.args.side items c.loop-i.i c.index.result.now lt c.index.ensures)
    (has-more g.met.O.Sink.rest_both c.loop-i.invariant (has-put c.in_ok-put_if.field-0 c.in_ok-put_if.ensures))

pub returns : goal.returns
returns g c =
    let items = c.args.hunk.now.body.items in
    let all : length items ≤ c.loop-i.i = search rules in
    puts-done _ (subst (λ xs. HasPut g.O.Sink.view g.O.Sink.same_rest c.args.out.now c.loop-i.out (written c.args.text.now c.args.on c.args.side xs)) (take_all c.loop-i.i items all) c.loop-i.invariant)
