use Rattle.std.proofs.Common.{List, ℕ, subst}
use Rattle.std.specs.FinMap.{insert, remove}
use Rattle.outside.specs.Calls.{Becomes}
use Rattle.outside.specs.Quiet.Effect.{Put}
use Rattle.stack_state.proofs.Stepping.{effect_made, effect_failed, temps-put}
use Rattle.stack_state.proofs.putting.put_by.Goals as goal

pub returns-in-Ok : goal.returns-in-Ok
returns-in-Ok g c s =
    let name = c.args.name.now in
    let bytes = c.args.bytes.now in
    effect_made s c.in-Ok.field-0 tt (Put name bytes) c.requires.quiet c.in-Ok.ensures.makes
    (subst (λ (t : List ℕ). Becomes (g.T.Tree.view c.args.tree.now) (g.T.Tree.view c.put_whole.new.tree) (λ f. remove (insert f name bytes) t)) c.requires.named c.in-Ok.ensures.ok)
    (λ f. temps-put name bytes f c.requires.lasting)

pub returns-in-Err : goal.returns-in-Err
returns-in-Err g c s = effect_failed s c.in-Err.field-0 (Put c.args.name.now c.args.bytes.now) c.requires.quiet c.in-Err.ensures.makes

pub put_whole-requires-clause-lasting : goal.put_whole-requires-clause-lasting
put_whole-requires-clause-lasting g c = c.requires.lasting

pub put_whole-requires-clause-temporary : goal.put_whole-requires-clause-temporary
put_whole-requires-clause-temporary g c = c.requires.temporary

pub put_whole-requires-clause-quiet : goal.put_whole-requires-clause-quiet
put_whole-requires-clause-quiet g c = c.requires.quiet
