use Rattle.std.proofs.Common.{◌++◌, [], ◌∷◌, Err, refl, subst, ◌∙◌}
use Rattle.std.proofs.lemmas.Result.{err_from_is_err_and}
use Rattle.outside.specs.Puts.{Puts}
use Rattle.outside.proofs.SinkSteps.{HasPut, has-put, puts-more, puts-stop}
use Rattle.read_file_patch.specs.Stripped.{shortened}
use Rattle.cli_tool_words.specs.PlainJobs.{plain_shown}
use Rattle.patch_filters.proofs.Rows.{line-shown}
use Rattle.patch_filters.proofs.list.put_own_line.Goals as goal

pub returns-in_err-put_piece : goal.returns-in_err-put_piece
returns-in_err-put_piece g c = λ text lawful is.
    let s = plain_shown c.args.shown.now in
    let name = c.args.name.now in
    let front-is = c.as_slice.ensures.value ∙ c.front-front.ensures text lawful in
    let e = err_from_is_err_and c.from_residual.result c.from_residual.ensures.1 in
    rw e.1 (subst (Puts g.O.Sink.view g.O.Sink.same_rest c.args.out.now c.put_piece.new.out (Err e.0))
    (line-shown s c.args.number text c.args.patch.now c.as_slice.result.now (shortened s.strip name) name front-is refl is)
    (puts-stop c.in_err-put_piece.field-0.0 e.0 (s.prefix ++ (shortened s.strip name ++ 10 ∷ [])) c.in_err-put_piece.ensures))

pub returns-in_err-put_piece-2 : goal.returns-in_err-put_piece-2
returns-in_err-put_piece-2 g c = λ text lawful is.
    let s = plain_shown c.args.shown.now in
    let name = c.args.name.now in
    let front-is = c.as_slice.ensures.value ∙ c.front-front.ensures text lawful in
    let e = err_from_is_err_and c.from_residual-in_err-put_piece-2.result c.from_residual-in_err-put_piece-2.ensures.1 in
    let rest = subst (λ t. Puts {R = Unit {0}} g.O.Sink.view g.O.Sink.same_rest c.put_piece.new.out c.put_piece-2.new.out (Err c.in_err-put_piece-2.field-0.0) t) c.deref.ensures.value c.in_err-put_piece-2.ensures in
    rw e.1 (subst (Puts g.O.Sink.view g.O.Sink.same_rest c.args.out.now c.put_piece-2.new.out (Err e.0))
    (line-shown s c.args.number text c.args.patch.now c.as_slice.result.now (shortened s.strip name) name front-is refl is)
    (puts-more g.met.O.Sink.rest_both (has-put c.in_ok-put_piece.field-0 c.in_ok-put_piece.ensures)
    (puts-stop c.in_err-put_piece-2.field-0.0 e.0 (shortened s.strip name ++ 10 ∷ []) rest)))

pub returns : goal.returns
returns g c = λ text lawful is.
    let s = plain_shown c.args.shown.now in
    let name = c.args.name.now in
    let front-is = c.as_slice.ensures.value ∙ c.front-front.ensures text lawful in
    subst (Puts g.O.Sink.view g.O.Sink.same_rest c.args.out.now c.put_line.new.out c.put_line.result)
    (line-shown s c.args.number text c.args.patch.now c.as_slice.result.now c.shortened.result.now name front-is c.shortened.ensures is)
    (puts-more g.met.O.Sink.rest_both (has-put c.in_ok-put_piece.field-0 c.in_ok-put_piece.ensures)
    (puts-more g.met.O.Sink.rest_both (subst (HasPut g.O.Sink.view g.O.Sink.same_rest c.put_piece.new.out c.put_piece-2.new.out) c.deref.ensures.value (has-put c.in_ok-put_piece-2.field-0 c.in_ok-put_piece-2.ensures)) c.put_line.ensures))
