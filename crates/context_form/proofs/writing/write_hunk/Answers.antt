use Rattle.std.proofs.Common.{◌++◌, List, ℕ, subst, refl}
use Rattle.std.proofs.lemmas.Result.{err_from_is_err_and}
use Rattle.hunk_core.specs.declared.Side.TheVariants.{Forward, Reversed}
use Rattle.hunk_core.specs.Sides.{taken_count}
use Rattle.hunk_core.specs.Turned.{other_side}
use Rattle.outside.specs.Puts.{Puts}
use Rattle.outside.proofs.SinkSteps.{has-put, puts-more, puts-stop}
use Rattle.context_form.specs.Canonical.{range_line_text, mixed, part_text}
use Rattle.context_form.proofs.MixedLemmas.{taken_body, whole-text}
use Rattle.context_form.proofs.writing.write_hunk.Goals as goal

pub returns-in_err-put_opening : goal.returns-in_err-put_opening
returns-in_err-put_opening g c =
    let p = err_from_is_err_and c.from_residual.result c.from_residual.ensures.1 in
    let new = taken_count (other_side c.args.side) c.args.hunk.now.body.items in
    let body = taken_body c.args.text.now c.args.side c.args.hunk.now.body.items in
    let whole = whole-text c.args.text.now c.args.side (other_side c.args.side) c.args.hunk.now c.args.starts.0 c.args.starts.1 c.count.result new refl c.count.ensures refl in
    subst (λ (bs : List ℕ). Puts g.O.Sink.view g.O.Sink.same_rest c.args.out.now c.put_opening.new.out c.from_residual.result bs) whole (rw p.1
    (puts-stop c.in_err-put_opening.field-0.0 p.0 (part_text Forward (mixed body) body ++ (range_line_text Reversed c.args.starts.1 new ++ part_text Reversed (mixed body) body)) c.in_err-put_opening.ensures))

pub returns-in_err-put_part : goal.returns-in_err-put_part
returns-in_err-put_part g c =
    let p = err_from_is_err_and c.from_residual-in_err-put_part.result c.from_residual-in_err-put_part.ensures.1 in
    let new = taken_count (other_side c.args.side) c.args.hunk.now.body.items in
    let body = taken_body c.args.text.now c.args.side c.args.hunk.now.body.items in
    let whole = whole-text c.args.text.now c.args.side (other_side c.args.side) c.args.hunk.now c.args.starts.0 c.args.starts.1 c.count.result new refl c.count.ensures refl in
    subst (λ (bs : List ℕ). Puts g.O.Sink.view g.O.Sink.same_rest c.args.out.now c.put_part.new.out c.from_residual-in_err-put_part.result bs) whole (rw p.1
    (puts-more g.met.O.Sink.rest_both (has-put c.in_ok-put_opening.field-0 c.in_ok-put_opening.ensures)
    (puts-stop c.in_err-put_part.field-0.0 p.0 (range_line_text Reversed c.args.starts.1 new ++ part_text Reversed (mixed body) body) c.in_err-put_part.ensures)))

pub returns-in_err-put_middle : goal.returns-in_err-put_middle
returns-in_err-put_middle g c =
    let p = err_from_is_err_and c.from_residual-in_err-put_middle.result c.from_residual-in_err-put_middle.ensures.1 in
    let body = taken_body c.args.text.now c.args.side c.args.hunk.now.body.items in
    let whole = whole-text c.args.text.now c.args.side c.other.result c.args.hunk.now c.args.starts.0 c.args.starts.1 c.count.result c.count-2.result c.other.ensures c.count.ensures c.count-2.ensures in
    subst (λ (bs : List ℕ). Puts g.O.Sink.view g.O.Sink.same_rest c.args.out.now c.put_middle.new.out c.from_residual-in_err-put_middle.result bs) whole (rw p.1
    (puts-more g.met.O.Sink.rest_both (has-put c.in_ok-put_opening.field-0 c.in_ok-put_opening.ensures)
    (puts-more g.met.O.Sink.rest_both (has-put c.in_ok-put_part.field-0 c.in_ok-put_part.ensures)
    (puts-stop c.in_err-put_middle.field-0.0 p.0 (part_text Reversed (mixed body) body) c.in_err-put_middle.ensures))))

pub returns : goal.returns
returns g c =
    let whole = whole-text c.args.text.now c.args.side c.other.result c.args.hunk.now c.args.starts.0 c.args.starts.1 c.count.result c.count-2.result c.other.ensures c.count.ensures c.count-2.ensures in
    subst (λ (bs : List ℕ). Puts g.O.Sink.view g.O.Sink.same_rest c.args.out.now c.put_part-2.new.out c.put_part-2.result bs) whole
    (puts-more g.met.O.Sink.rest_both (has-put c.in_ok-put_opening.field-0 c.in_ok-put_opening.ensures)
    (puts-more g.met.O.Sink.rest_both (has-put c.in_ok-put_part.field-0 c.in_ok-put_part.ensures)
    (puts-more g.met.O.Sink.rest_both (has-put c.in_ok-put_middle.field-0 c.in_ok-put_middle.ensures) c.put_part-2.ensures)))

pub put_part-requires : goal.put_part-requires
put_part-requires g c = c.requires

pub put_part-requires-2 : goal.put_part-requires-2
put_part-requires-2 g c = c.requires
