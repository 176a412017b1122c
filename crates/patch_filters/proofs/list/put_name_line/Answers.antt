use Rattle.std.proofs.Common.{Err, subst}
use Rattle.std.proofs.lemmas.Result.{err_from_is_err_and}
use Rattle.outside.specs.Puts.{Puts}
use Rattle.outside.proofs.SinkSteps.{HasPut, has-put, puts-more, puts-stop}
use Rattle.read_file_patch.specs.PlainPatch.{patch_of}
use Rattle.cli_tool_words.specs.PlainJobs.{plain_shown}
use Rattle.patch_filters.specs.Listed.{own_line}
use Rattle.patch_filters.proofs.list.put_name_line.Goals as goal

pub returns-in_err-put_piece : goal.returns-in_err-put_piece
returns-in_err-put_piece g c = λ text lawful is.
    let s = plain_shown c.args.shown.now in
    let e = err_from_is_err_and c.from_residual.result c.from_residual.ensures.1 in
    let put = subst (λ t. Puts {R = Unit {0}} g.O.Sink.view g.O.Sink.same_rest c.args.out.now c.put_piece.new.out (Err c.in_err-put_piece.field-0.0) t) c.deref.ensures.value c.in_err-put_piece.ensures in
    rw e.1 (puts-stop c.in_err-put_piece.field-0.0 e.0 (own_line s c.args.number (patch_of text c.args.patch.now)) put)

pub returns : goal.returns
returns g c = λ text lawful is.
    puts-more g.met.O.Sink.rest_both (subst (HasPut g.O.Sink.view g.O.Sink.same_rest c.args.out.now c.put_piece.new.out) c.deref.ensures.value (has-put c.in_ok-put_piece.field-0 c.in_ok-put_piece.ensures)) (c.put_own_line.ensures text lawful is)
