use Rattle.std.proofs.Common.{[], ◌++◌, Ok, if◌then◌else◌, subst, sym, ◌∙◌}
use Rattle.std.proofs.lemmas.Result.{err_from_is_err_and}
use Rattle.hunk_core.specs.Turned.{other_side}
use Rattle.outside.specs.declared.Failed.{Failed}
use Rattle.outside.specs.Puts.{Puts}
use Rattle.outside.proofs.SinkSteps.{has-none, has-put, puts-done, puts-more, puts-stop}
use Rattle.patch_header.specs.Written.{new_mark, old_mark}
use Rattle.flip_patch.specs.HeaderText.{name_lines, named_line, span_on}
use Rattle.flip_patch.proofs.headers.put_lines.Goals as goal

pub returns-in_err-put_index_if : goal.returns-in_err-put_index_if
returns-in_err-put_index_if g c =
    let p = err_from_is_err_and c.from_residual.result c.from_residual.ensures.1 in
    rw p.1 (puts-stop c.in_err-put_index_if.field-0.0 p.0 (name_lines c.args.text.now c.args.form c.args.side c.args.header.now) c.in_err-put_index_if.ensures)

pub returns-then-not-shows_names : goal.returns-then-not-shows_names
returns-then-not-shows_names g c =
    let both = named_line c.args.text.now (old_mark c.args.form) (span_on c.args.side c.args.header.now) ++ named_line c.args.text.now (new_mark c.args.form) (span_on (other_side c.args.side) c.args.header.now) in
    puts-more g.met.O.Sink.rest_both (has-put c.in_ok-put_index_if.field-0 c.in_ok-put_index_if.ensures)
    (subst (λ b. Puts {E = Failed} g.O.Sink.view g.O.Sink.same_rest c.put_index_if.new.out c.put_index_if.new.out (Ok tt) (if b then both else [])) (sym c.if-not-shows_names.true ∙ c.shows_names.ensures)
    (puts-done tt (has-none g.met.O.Sink.rest_none c.put_index_if.new.out)))

pub returns-in_err-put_named_line : goal.returns-in_err-put_named_line
returns-in_err-put_named_line g c =
    let both = named_line c.args.text.now (old_mark c.args.form) (span_on c.args.side c.args.header.now) ++ named_line c.args.text.now (new_mark c.args.form) (span_on (other_side c.args.side) c.args.header.now) in
    let p = err_from_is_err_and c.from_residual-in_err-put_named_line.result c.from_residual-in_err-put_named_line.ensures.1 in
    let own : Puts {E = Failed} g.O.Sink.view g.O.Sink.same_rest c.put_index_if.new.out c.put_named_line.new.out c.from_residual-in_err-put_named_line.result (named_line c.args.text.now (old_mark c.args.form) (span_on c.args.side c.args.header.now) ++ named_line c.args.text.now (new_mark c.args.form) (span_on (other_side c.args.side) c.args.header.now)) =
    rw (p.1, ← c.old_mark.ensures, ← c.span_on.ensures)
    (puts-stop c.in_err-put_named_line.field-0.0 p.0 (named_line c.args.text.now (new_mark c.args.form) (span_on (other_side c.args.side) c.args.header.now)) c.in_err-put_named_line.ensures) in
    puts-more g.met.O.Sink.rest_both (has-put c.in_ok-put_index_if.field-0 c.in_ok-put_index_if.ensures)
    (subst (λ b. Puts {E = Failed} g.O.Sink.view g.O.Sink.same_rest c.put_index_if.new.out c.put_named_line.new.out c.from_residual-in_err-put_named_line.result (if b then both else [])) (sym c.if-not-shows_names.false ∙ c.shows_names.ensures) own)

pub returns : goal.returns
returns g c =
    let both = named_line c.args.text.now (old_mark c.args.form) (span_on c.args.side c.args.header.now) ++ named_line c.args.text.now (new_mark c.args.form) (span_on (other_side c.args.side) c.args.header.now) in
    let own : Puts {E = Failed} g.O.Sink.view g.O.Sink.same_rest c.put_index_if.new.out c.put_named_line-2.new.out c.put_named_line-2.result (named_line c.args.text.now (old_mark c.args.form) (span_on c.args.side c.args.header.now) ++ named_line c.args.text.now (new_mark c.args.form) (span_on (other_side c.args.side) c.args.header.now)) =
    rw (← c.old_mark.ensures, ← c.span_on.ensures, ← c.new_mark.ensures, ← c.other.ensures, ← c.span_on-2.ensures)
    (puts-more g.met.O.Sink.rest_both (has-put c.in_ok-put_named_line.field-0 c.in_ok-put_named_line.ensures) c.put_named_line-2.ensures) in
    puts-more g.met.O.Sink.rest_both (has-put c.in_ok-put_index_if.field-0 c.in_ok-put_index_if.ensures)
    (subst (λ b. Puts {E = Failed} g.O.Sink.view g.O.Sink.same_rest c.put_index_if.new.out c.put_named_line-2.new.out c.put_named_line-2.result (if b then both else [])) (sym c.if-not-shows_names.false ∙ c.shows_names.ensures) own)
