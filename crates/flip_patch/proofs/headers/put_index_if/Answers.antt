use Rattle.std.proofs.Common.{[], ◌++◌, Ok, List, ℕ, if◌then◌else◌, subst, sym, ◌∙◌}
use Rattle.std.proofs.lemmas.Result.{err_from_is_err_and}
use Rattle.outside.specs.declared.Failed.{Failed}
use Rattle.outside.specs.Puts.{Puts}
use Rattle.outside.proofs.SinkSteps.{has-none, has-put, puts-done, puts-more, puts-stop}
use Rattle.read_file_patch.specs.PlainPatch.{header_of}
use Rattle.patch_set.specs.PlainName.{plain_name}
use Rattle.patch_header.specs.Written.{name_end}
use Rattle.flip_patch.specs.HeaderText.{index_line}
use Rattle.flip_patch.proofs.headers.put_index_if.Goals as goal

pub returns-then-not-needs_index : goal.returns-then-not-needs_index
returns-then-not-needs_index g c =
    let name = plain_name (header_of c.args.text.now c.args.header.now) in
    subst (λ b. Puts {E = Failed} g.O.Sink.view g.O.Sink.same_rest c.args.out.now c.args.out.now (Ok tt) (if b then index_line name else [])) (sym c.if-not-needs_index.true ∙ c.needs_index.ensures)
    (puts-done tt (has-none g.met.O.Sink.rest_none c.args.out.now))

pub returns-in_err-put_piece : goal.returns-in_err-put_piece
returns-in_err-put_piece g c =
    let p = err_from_is_err_and c.from_residual.result c.from_residual.ensures.1 in
    let name = plain_name (header_of c.args.text.now c.args.header.now) in
    let own : Puts {E = Failed} g.O.Sink.view g.O.Sink.same_rest c.args.out.now c.put_piece.new.out c.from_residual.result (index_line c.args.name.now) =
    rw p.1 (puts-stop c.in_err-put_piece.field-0.0 p.0 (c.args.name.now ++ name_end c.args.name.now) c.in_err-put_piece.ensures) in
    subst (λ b. Puts {E = Failed} g.O.Sink.view g.O.Sink.same_rest c.args.out.now c.put_piece.new.out c.from_residual.result (if b then index_line name else [])) (sym c.if-not-needs_index.false ∙ c.needs_index.ensures)
    (subst (λ (n : List ℕ). Puts {E = Failed} g.O.Sink.view g.O.Sink.same_rest c.args.out.now c.put_piece.new.out c.from_residual.result (index_line n)) c.requires own)

pub returns : goal.returns
returns g c =
    let name = plain_name (header_of c.args.text.now c.args.header.now) in
    let own : Puts {E = Failed} g.O.Sink.view g.O.Sink.same_rest c.args.out.now c.put_both.new.out c.put_both.result (index_line c.args.name.now) =
    rw (← c.name_end.ensures) (puts-more g.met.O.Sink.rest_both (has-put c.in_ok-put_piece.field-0 c.in_ok-put_piece.ensures) c.put_both.ensures) in
    subst (λ b. Puts {E = Failed} g.O.Sink.view g.O.Sink.same_rest c.args.out.now c.put_both.new.out c.put_both.result (if b then index_line name else [])) (sym c.if-not-needs_index.false ∙ c.needs_index.ensures)
    (subst (λ (n : List ℕ). Puts {E = Failed} g.O.Sink.view g.O.Sink.same_rest c.args.out.now c.put_both.new.out c.put_both.result (index_line n)) c.requires own)
