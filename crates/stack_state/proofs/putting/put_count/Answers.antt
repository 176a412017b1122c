use Rattle.std.proofs.Common.{◌≡◌, ℕ, List, [], ◌∷◌, false, sym, ◌∙◌, subst}
use Rattle.outside.specs.Files.{is_temp}
use Rattle.outside.specs.Quiet.Effect.{Put}
use Rattle.series_stack.specs.Count.{count_text}
use Rattle.series_stack.proofs.Names.{count-lasting}
use Rattle.stack_state.specs.Steps.{Steps}
use Rattle.series_stack.specs.Stack.{count_name}
use Rattle.stack_state.proofs.Stepping.{steps_starved}
use Rattle.stack_state.proofs.putting.put_count.Goals as goal

pub put_file-requires-clause-lasting : goal.put_file-requires-clause-lasting
put_file-requires-clause-lasting g c = subst (λ (l : List ℕ). is_temp l ≡ false) (sym c.in-Ok.ensures) count-lasting

pub returns : goal.returns
returns g c s =
    subst (λ (l : List ℕ). Steps (g.T.Tree.view c.args.tree.now) (g.T.Tree.view c.put_file.new.tree) s s c.put_file.result (λ f. Put l (count_text c.args.count) ∷ []) (λ f. [])) c.in-Ok.ensures
    (subst (λ (l : List ℕ). Steps (g.T.Tree.view c.args.tree.now) (g.T.Tree.view c.put_file.new.tree) s s c.put_file.result (λ f. Put c.in-Ok.name l ∷ []) (λ f. [])) (c.deref.ensures.value ∙ c.in-Ok-count_text.ensures)
    (c.put_file.ensures s))

pub returns-in_default : goal.returns-in_default
returns-in_default g c s = steps_starved (g.T.Tree.view c.args.tree.now) s (λ f. Put count_name (count_text c.args.count) ∷ []) (λ f. []) c.requires.quiet

pub returns-in_default-count_text : goal.returns-in_default-count_text
returns-in_default-count_text g c s = steps_starved (g.T.Tree.view c.args.tree.now) s (λ f. Put count_name (count_text c.args.count) ∷ []) (λ f. []) c.requires.quiet

pub put_file-requires-clause-quiet : goal.put_file-requires-clause-quiet
put_file-requires-clause-quiet g c = c.requires.quiet
