use Rattle.std.proofs.Common.{◌∷◌, []}
use Rattle.std.proofs.lemmas.Result.{err_from_is_err_and}
use Rattle.outside.proofs.SinkSteps.{has-put, puts-more, puts-stop}
use Rattle.unified_form.proofs.showing.put_end.Goals as goal

pub returns-in_err-put_piece : goal.returns-in_err-put_piece
returns-in_err-put_piece g c =
    let p = err_from_is_err_and c.from_residual.result c.from_residual.ensures.1 in
    rw p.1 (puts-stop c.in_err-put_piece.field-0.0 p.0 (10 ∷ []) c.in_err-put_piece.ensures)

pub returns : goal.returns
returns g c = puts-more g.met.O.Sink.rest_both (has-put c.in_ok-put_piece.field-0 c.in_ok-put_piece.ensures) c.put_piece-2.ensures
