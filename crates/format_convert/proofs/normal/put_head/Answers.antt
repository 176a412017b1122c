use Rattle.std.proofs.Common.{◌≡◌, ◌++◌, ◌∷◌, ℕ, List, [], ap, subst, ◌∙◌}
use Rattle.outside.specs.Puts.{Puts}
use Rattle.format_convert.specs.Commands.{range_start}
use Rattle.format_convert.specs.Walk.{new_start}
use Rattle.format_convert.proofs.NormalLemmas.{command-is}
use Rattle.format_convert.proofs.normal.put_head.Goals as goal

pub returns : goal.returns
returns g c =
    let b = c.args.block in
    subst (λ (bs : List ℕ). Puts g.O.Sink.view g.O.Sink.same_rest c.args.out.now c.put_both.new.out c.put_both.result bs)
    (ap (λ (x : List ℕ). x ++ 10 ∷ []) (c.as_slice.ensures.value ∙ c.command_of.ensures) ∙ command-is (range_start b.first b.drops) b.drops (range_start (new_start c.args.net b) b.adds) b.adds)
    c.put_both.ensures
