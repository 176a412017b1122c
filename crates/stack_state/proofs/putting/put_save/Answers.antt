use Rattle.std.proofs.Common.{◌≡◌, ℕ, List, [], ◌∷◌, false, sym, subst}
use Rattle.outside.specs.Files.{is_temp}
use Rattle.outside.specs.Quiet.Effect.{Put}
use Rattle.series_stack.proofs.Names.{save-lasting}
use Rattle.stack_state.specs.Steps.{Steps}
use Rattle.series_stack.specs.Stack.{save_name}
use Rattle.stack_state.proofs.Stepping.{steps_starved}
use Rattle.stack_state.proofs.putting.put_save.Goals as goal

pub put_file-requires-clause-lasting : goal.put_file-requires-clause-lasting
put_file-requires-clause-lasting g c = subst (λ (l : List ℕ). is_temp l ≡ false) (sym c.in-Ok.ensures) (save-lasting c.args.number)

pub returns : goal.returns
returns g c s = subst (λ (l : List ℕ). Steps (g.T.Tree.view c.args.tree.now) (g.T.Tree.view c.put_file.new.tree) s s c.put_file.result (λ f. Put l c.args.save.now ∷ []) (λ f. [])) c.in-Ok.ensures (c.put_file.ensures s)

pub returns-in_default : goal.returns-in_default
returns-in_default g c s = steps_starved (g.T.Tree.view c.args.tree.now) s (λ f. Put (save_name c.args.number) c.args.save.now ∷ []) (λ f. []) c.requires.quiet

pub put_file-requires-clause-quiet : goal.put_file-requires-clause-quiet
put_file-requires-clause-quiet g c = c.requires.quiet
