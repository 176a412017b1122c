use Rattle.std.proofs.Common.{ℕ, List, [], Bool, cond, sym, ap, subst, ◌∙◌, ◌∷◌}
use Rattle.std.specs.List.{flat_map}
use Rattle.std.proofs.lemmas.Result.{err_from_is_err_and}
use Rattle.hunk_core.specs.PlainHunk.{bytes_at}
use Rattle.normal_form.specs.Canonical.{line_text}
use Rattle.outside.specs.Puts.{Puts}
use Rattle.outside.proofs.SinkSteps.{HasPut, has-none, has-put, puts-done, puts-more, puts-stop}
use Rattle.format_convert.proofs.Parts.{text-of-one}
use Rattle.format_convert.proofs.lines.put_if.Goals as goal

pub returns-then-not-is_on : goal.returns-then-not-is_on
returns-then-not-is_on g c = puts-done _ (subst (λ (bs : List ℕ). HasPut g.O.Sink.view g.O.Sink.same_rest c.args.out.now c.args.out.now bs)
    (ap (λ (b : Bool). flat_map (line_text c.args.side) (cond b (bytes_at c.args.text.now c.args.edit.span ∷ []) [])) (sym c.if-not-is_on.true ∙ c.is_on.ensures))
    (has-none g.met.O.Sink.rest_none c.args.out.now))

pub returns-in_err-put_piece : goal.returns-in_err-put_piece
returns-in_err-put_piece g c =
    let p = err_from_is_err_and c.from_residual.result c.from_residual.ensures.1 in
    let own : Puts g.O.Sink.view g.O.Sink.same_rest c.args.out.now c.put_piece.new.out c.from_residual.result (line_text c.args.side c.line_at-line.result.now) =
    rw (p.1, ← c.marks_of.ensures) (puts-stop c.in_err-put_piece.field-0.0 p.0 _ c.in_err-put_piece.ensures) in
    subst (λ (bs : List ℕ). Puts g.O.Sink.view g.O.Sink.same_rest c.args.out.now c.put_piece.new.out c.from_residual.result bs)
    (ap (line_text c.args.side) c.line_at-line.ensures
    ∙ sym (text-of-one (line_text c.args.side) (bytes_at c.args.text.now c.args.edit.span))
    ∙ ap (λ (b : Bool). flat_map (line_text c.args.side) (cond b (bytes_at c.args.text.now c.args.edit.span ∷ []) [])) (sym c.if-not-is_on.false ∙ c.is_on.ensures))
    own

pub returns : goal.returns
returns g c =
    let own : Puts g.O.Sink.view g.O.Sink.same_rest c.args.out.now c.put_both.new.out c.put_both.result (line_text c.args.side c.line_at-line.result.now) =
    rw (← c.marks_of.ensures, ← c.ending.ensures) (puts-more g.met.O.Sink.rest_both (has-put c.in_ok-put_piece.field-0 c.in_ok-put_piece.ensures) c.put_both.ensures) in
    subst (λ (bs : List ℕ). Puts g.O.Sink.view g.O.Sink.same_rest c.args.out.now c.put_both.new.out c.put_both.result bs)
    (ap (line_text c.args.side) c.line_at-line.ensures
    ∙ sym (text-of-one (line_text c.args.side) (bytes_at c.args.text.now c.args.edit.span))
    ∙ ap (λ (b : Bool). flat_map (line_text c.args.side) (cond b (bytes_at c.args.text.now c.args.edit.span ∷ []) [])) (sym c.if-not-is_on.false ∙ c.is_on.ensures))
    own

pub line_at-line-requires : goal.line_at-line-requires
line_at-line-requires g c = c.requires
