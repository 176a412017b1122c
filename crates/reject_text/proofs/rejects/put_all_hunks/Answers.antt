use Rattle.std.specs.List.{flat_map}
use Rattle.std.proofs.lemmas.Result.{err_from_is_err_and}
use Rattle.hunk_core.specs.PlainHunk.{hunks_of}
use Rattle.outside.proofs.SinkSteps.{has-put, puts-more, puts-stop}
use Rattle.patch_header.specs.Written.{hunk_text}
use Rattle.reject_text.specs.Rejects.{rows_of, rejects}
use Rattle.reject_text.proofs.rejects.put_all_hunks.Goals as goal

pub returns-in_err-put_headers : goal.returns-in_err-put_headers
returns-in_err-put_headers g c =
    let p = err_from_is_err_and c.from_residual.result c.from_residual.ensures.1 in
    rw p.1 (puts-stop c.in_err-put_headers.field-0.0 p.0 (flat_map (hunk_text c.args.form) (rejects (rows_of c.args.side (hunks_of c.args.text.now c.args.hunks.now) c.args.verdicts.now))) c.in_err-put_headers.ensures)

pub returns : goal.returns
returns g c = puts-more g.met.O.Sink.rest_both (has-put c.in_ok-put_headers.field-0 c.in_ok-put_headers.ensures) c.put_each.ensures

pub put_each-requires-clause-lawful : goal.put_each-requires-clause-lawful
put_each-requires-clause-lawful g c = c.requires.lawful

pub put_each-requires-clause-rows : goal.put_each-requires-clause-rows
put_each-requires-clause-rows g c = c.requires.rows

pub put_each-requires-clause-form : goal.put_each-requires-clause-form
put_each-requires-clause-form g c = c.requires.form
