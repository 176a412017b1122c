use Rattle.std.proofs.lemmas.Result.{err_from_is_err_and}
use Rattle.outside.proofs.SinkSteps.{has-put, puts-more, puts-stop}
use Rattle.patch_header.specs.Written.{new_mark}
use Rattle.reject_text.specs.Headers.{name_line}
use Rattle.reject_text.proofs.header.put_headers.Goals as goal

pub returns-in_err-put_name_line : goal.returns-in_err-put_name_line
returns-in_err-put_name_line g c =
    let p = err_from_is_err_and c.from_residual.result c.from_residual.ensures.1 in
    rw (p.1, ← c.old_mark.ensures) (puts-stop c.in_err-put_name_line.field-0.0 p.0 (name_line (new_mark c.args.form) c.args.name.now) c.in_err-put_name_line.ensures)

pub returns : goal.returns
returns g c =
    rw (← c.old_mark.ensures, ← c.new_mark.ensures)
    (puts-more g.met.O.Sink.rest_both (has-put c.in_ok-put_name_line.field-0 c.in_ok-put_name_line.ensures) c.put_name_line-2.ensures)
