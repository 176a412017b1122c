use Rattle.std.proofs.Common.{◌≡◌, ◌∷◌, ◌++◌, [], List, ℕ, subst, ap, ◌∙◌}
use Rattle.hunk_core.specs.declared.Side.TheVariants.{Forward}
use Rattle.outside.specs.Puts.{Puts}
use Rattle.context_form.specs.Canonical.{range_line_text}
use Rattle.context_form.proofs.showing.put_old_range.Goals as goal

pub returns : goal.returns
returns g c =
    let ens = c.put_all.ensures in
    let e : c.as_slice.result.now ≡ 10 ∷ range_line_text Forward c.args.start c.args.count = c.as_slice.ensures.value ∙ c.add_range_line.ensures ∙ ap (λ xs. xs ++ range_line_text Forward c.args.start c.args.count) (c.add_piece.ensures ∙ ap (λ xs. xs ++ 10 ∷ []) c.new-gathered.ensures) in
    subst (λ (bs : List ℕ). Puts g.O.Sink.view g.O.Sink.same_rest c.args.out.now c.put_all.new.out c.put_all.result bs) e (record { call = ens.call; rest = ens.rest; received = ens.received; failed = ens.failed })
