use Rattle.std.proofs.Common.{[], ◌∷◌}
use Rattle.outside.specs.Quiet.Effect.{Put}
use Rattle.stack_state.proofs.Stepping.{steps_starved}
use Rattle.stack_state.proofs.putting.put_file.Goals as goal

pub returns-in-Err : goal.returns-in-Err
returns-in-Err g c s = steps_starved (g.T.Tree.view c.args.tree.now) s (λ f. Put c.args.name.now c.args.bytes.now ∷ []) (λ f. []) c.requires.quiet

pub returns-in-Ok : goal.returns-in-Ok
returns-in-Ok g c s = c.put_by.ensures s

pub put_by-requires-clause-named : goal.put_by-requires-clause-named
put_by-requires-clause-named g c = c.in-Ok.ensures.text

pub put_by-requires-clause-temporary : goal.put_by-requires-clause-temporary
put_by-requires-clause-temporary g c = c.in-Ok.ensures.temp

pub put_by-requires-clause-lasting : goal.put_by-requires-clause-lasting
put_by-requires-clause-lasting g c = c.requires.lasting

pub put_by-requires-clause-quiet : goal.put_by-requires-clause-quiet
put_by-requires-clause-quiet g c = c.requires.quiet
