use Rattle.std.proofs.Common.{List, ℕ, map, subst}
use Rattle.std.specs.List.{flat_map}
use Rattle.std.proofs.lemmas.Result.{err_from_is_err_and}
use Rattle.hunk_core.specs.declared.Side.TheVariants.{Forward}
use Rattle.hunk_core.specs.PlainHunk.{body_of}
use Rattle.hunk_core.specs.Turned.{taken_line}
use Rattle.outside.specs.Puts.{Puts}
use Rattle.outside.proofs.SinkSteps.{has-put, puts-more, puts-stop}
use Rattle.unified_form.specs.Canonical.{line_text}
use Rattle.unified_form.proofs.ShownAgain.{shown-text}
use Rattle.unified_form.proofs.showing.write_shown.Goals as goal

pub returns-in_err-put_opening : goal.returns-in_err-put_opening
returns-in_err-put_opening g c =
    let p = err_from_is_err_and c.from_residual.result c.from_residual.ensures.1 in
    let whole = shown-text c.args.text.now c.args.behind.now c.args.hunk.now c.count.result c.count-2.result c.count.ensures c.count-2.ensures in
    subst (λ (bs : List ℕ). Puts g.O.Sink.view g.O.Sink.same_rest c.args.out.now c.put_opening.new.out c.from_residual.result bs) whole (rw p.1
    (puts-stop c.in_err-put_opening.field-0.0 p.0 (flat_map line_text (map (taken_line Forward) (body_of c.args.text.now c.args.hunk.now.body.items))) c.in_err-put_opening.ensures))

pub returns : goal.returns
returns g c =
    let whole = shown-text c.args.text.now c.args.behind.now c.args.hunk.now c.count.result c.count-2.result c.count.ensures c.count-2.ensures in
    subst (λ (bs : List ℕ). Puts g.O.Sink.view g.O.Sink.same_rest c.args.out.now c.put_body.new.out c.put_body.result bs) whole
    (puts-more g.met.O.Sink.rest_both (has-put c.in_ok-put_opening.field-0 c.in_ok-put_opening.ensures) c.put_body.ensures)

pub put_body-requires : goal.put_body-requires
put_body-requires g c = c.requires
