use Rattle.std.proofs.Common.{◌++◌, List, ℕ, refl, subst}
use Rattle.std.proofs.lemmas.Result.{err_from_is_err_and}
use Rattle.hunk_core.specs.declared.Side.TheVariants.{Forward, Reversed}
use Rattle.hunk_core.specs.PlainHunk.{body_of}
use Rattle.hunk_core.specs.Sides.{taken_count}
use Rattle.outside.specs.Puts.{Puts}
use Rattle.outside.proofs.SinkSteps.{has-put, puts-more, puts-stop}
use Rattle.context_form.specs.Canonical.{half_text, range_line_text}
use Rattle.context_form.proofs.ShownAgain.{shown-text}
use Rattle.context_form.proofs.showing.write_shown.Goals as goal

pub returns-in_err-put_opening : goal.returns-in_err-put_opening
returns-in_err-put_opening g c =
    let p = err_from_is_err_and c.from_residual.result c.from_residual.ensures.1 in
    let new = taken_count Reversed c.args.hunk.now.body.items in
    let body = body_of c.args.text.now c.args.hunk.now.body.items in
    let whole = shown-text c.args.text.now c.args.behind.now c.args.hunk.now c.count.result new c.count.ensures refl in
    subst (λ (bs : List ℕ). Puts g.O.Sink.view g.O.Sink.same_rest c.args.out.now c.put_opening.new.out c.from_residual.result bs) whole (rw p.1
    (puts-stop c.in_err-put_opening.field-0.0 p.0 (half_text Forward body ++ (range_line_text Reversed c.args.hunk.now.new_start new ++ half_text Reversed body)) c.in_err-put_opening.ensures))

pub returns-in_err-put_half : goal.returns-in_err-put_half
returns-in_err-put_half g c =
    let p = err_from_is_err_and c.from_residual-in_err-put_half.result c.from_residual-in_err-put_half.ensures.1 in
    let new = taken_count Reversed c.args.hunk.now.body.items in
    let body = body_of c.args.text.now c.args.hunk.now.body.items in
    let whole = shown-text c.args.text.now c.args.behind.now c.args.hunk.now c.count.result new c.count.ensures refl in
    subst (λ (bs : List ℕ). Puts g.O.Sink.view g.O.Sink.same_rest c.args.out.now c.put_half.new.out c.from_residual-in_err-put_half.result bs) whole (rw p.1
    (puts-more g.met.O.Sink.rest_both (has-put c.in_ok-put_opening.field-0 c.in_ok-put_opening.ensures)
    (puts-stop c.in_err-put_half.field-0.0 p.0 (range_line_text Reversed c.args.hunk.now.new_start new ++ half_text Reversed body) c.in_err-put_half.ensures)))

pub returns-in_err-put_middle : goal.returns-in_err-put_middle
returns-in_err-put_middle g c =
    let p = err_from_is_err_and c.from_residual-in_err-put_middle.result c.from_residual-in_err-put_middle.ensures.1 in
    let body = body_of c.args.text.now c.args.hunk.now.body.items in
    let whole = shown-text c.args.text.now c.args.behind.now c.args.hunk.now c.count.result c.count-2.result c.count.ensures c.count-2.ensures in
    subst (λ (bs : List ℕ). Puts g.O.Sink.view g.O.Sink.same_rest c.args.out.now c.put_middle.new.out c.from_residual-in_err-put_middle.result bs) whole (rw p.1
    (puts-more g.met.O.Sink.rest_both (has-put c.in_ok-put_opening.field-0 c.in_ok-put_opening.ensures)
    (puts-more g.met.O.Sink.rest_both (has-put c.in_ok-put_half.field-0 c.in_ok-put_half.ensures)
    (puts-stop c.in_err-put_middle.field-0.0 p.0 (half_text Reversed body) c.in_err-put_middle.ensures))))

pub returns : goal.returns
returns g c =
    let whole = shown-text c.args.text.now c.args.behind.now c.args.hunk.now c.count.result c.count-2.result c.count.ensures c.count-2.ensures in
    subst (λ (bs : List ℕ). Puts g.O.Sink.view g.O.Sink.same_rest c.args.out.now c.put_half-2.new.out c.put_half-2.result bs) whole
    (puts-more g.met.O.Sink.rest_both (has-put c.in_ok-put_opening.field-0 c.in_ok-put_opening.ensures)
    (puts-more g.met.O.Sink.rest_both (has-put c.in_ok-put_half.field-0 c.in_ok-put_half.ensures)
    (puts-more g.met.O.Sink.rest_both (has-put c.in_ok-put_middle.field-0 c.in_ok-put_middle.ensures) c.put_half-2.ensures)))

pub put_half-requires : goal.put_half-requires
put_half-requires g c = c.requires

pub put_half-requires-2 : goal.put_half-requires-2
put_half-requires-2 g c = c.requires
