use Rattle.std.proofs.Common.{◌∷◌, List, ℕ, subst, append_assoc}
use Rattle.std.specs.Prelude.{replicate}
use Rattle.std.proofs.lemmas.Result.{err_from_is_err_and}
use Rattle.hunk_core.specs.declared.Side.TheVariants.{Forward}
use Rattle.outside.specs.Puts.{Puts}
use Rattle.outside.proofs.SinkSteps.{has-put, puts-more, puts-stop}
use Rattle.context_form.specs.Canonical.{range_line_text}
use Rattle.context_form.proofs.showing.put_opening.Goals as goal

pub returns-in_err-put_stars : goal.returns-in_err-put_stars
returns-in_err-put_stars g c =
    let p = err_from_is_err_and c.from_residual.result c.from_residual.ensures.1 in
    subst (λ (bs : List ℕ). Puts g.O.Sink.view g.O.Sink.same_rest c.args.out.now c.put_stars.new.out c.from_residual.result bs)
    (append_assoc (replicate 15 42) c.args.behind.now (10 ∷ range_line_text Forward c.args.start c.args.count))
    (rw p.1 (puts-stop c.in_err-put_stars.field-0.0 p.0 (10 ∷ range_line_text Forward c.args.start c.args.count) c.in_err-put_stars.ensures))

pub returns : goal.returns
returns g c =
    subst (λ (bs : List ℕ). Puts g.O.Sink.view g.O.Sink.same_rest c.args.out.now c.put_old_range.new.out c.put_old_range.result bs)
    (append_assoc (replicate 15 42) c.args.behind.now (10 ∷ range_line_text Forward c.args.start c.args.count))
    (puts-more g.met.O.Sink.rest_both (has-put c.in_ok-put_stars.field-0 c.in_ok-put_stars.ensures) c.put_old_range.ensures)
