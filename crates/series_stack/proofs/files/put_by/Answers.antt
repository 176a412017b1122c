use Rattle.std.proofs.Common.{List, ℕ, refl, subst, inr}
use Rattle.std.specs.FinMap.{insert, remove}
use Rattle.outside.specs.Calls.{Becomes}
use Rattle.outside.specs.Quiet.Effect.{Put}
use Rattle.series_stack.specs.Saves.Entry.{Held}
use Rattle.series_stack.proofs.Steps.{effect_whole, effect_part}
use Rattle.series_stack.proofs.files.put_by.Goals as goal

pub returns-in-Ok-clause-makes : goal.returns-in-Ok-clause-makes
returns-in-Ok-clause-makes g c =
    let name = c.args.name.now in
    let bytes = c.args.bytes.now in
    effect_whole (Held name bytes) (Put name bytes) c.requires.quiet (λ f told. refl) c.in-Ok.field-0 tt c.in-Ok.ensures.makes
    (subst (λ (t : List ℕ). Becomes (g.T.Tree.view c.args.tree.now) (g.T.Tree.view c.put_whole.new.tree) (λ f. remove (insert f name bytes) t)) c.requires.named c.in-Ok.ensures.ok)

pub returns-in-Err : goal.returns-in-Err
returns-in-Err g c = record {
  makes = (
      let name = c.args.name.now in
      let bytes = c.args.bytes.now in
      effect_part (Held name bytes) (Put name bytes) c.requires.quiet (λ f told. refl) c.in-Err.field-0 _ c.in-Err.ensures.makes);
  cause = inr (refl, c.in-Err.ensures.run.cause refl);
}
