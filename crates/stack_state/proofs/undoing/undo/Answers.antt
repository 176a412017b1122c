use Rattle.std.proofs.Common.{◌≡◌, ℕ, List, [], false, sym, subst}
use Rattle.outside.specs.Files.{is_temp}
use Rattle.series_stack.specs.Saves.{entries_of}
use Rattle.series_stack.specs.Stack.{save_name}
use Rattle.series_stack.proofs.Names.{save-lasting}
use Rattle.stack_state.specs.Steps.{Steps}
use Rattle.stack_state.specs.Undoing.{undone_by}
use Rattle.stack_state.proofs.Stepping.{steps_starved}
use Rattle.stack_state.proofs.undoing.undo.Goals as goal

pub undo_by-requires-clause-lasting : goal.undo_by-requires-clause-lasting
undo_by-requires-clause-lasting g c = subst (λ (l : List ℕ). is_temp l ≡ false) (sym c.in-Ok.ensures) (save-lasting c.args.number)

pub returns-in-Ok : goal.returns-in-Ok
returns-in-Ok g c s = subst (λ (l : List ℕ). Steps (g.T.Tree.view c.args.tree.now) (g.T.Tree.view c.undo_by.new.tree) s s c.undo_by.result (undone_by l (entries_of c.args.save.now)) (λ f. [])) c.in-Ok.ensures (c.undo_by.ensures s)

pub returns-in-Err : goal.returns-in-Err
returns-in-Err g c s = steps_starved (g.T.Tree.view c.args.tree.now) s (undone_by (save_name c.args.number) (entries_of c.args.save.now)) (λ f. []) c.requires.quiet

pub undo_by-requires-clause-save : goal.undo_by-requires-clause-save
undo_by-requires-clause-save g c = c.requires.save

pub undo_by-requires-clause-quiet : goal.undo_by-requires-clause-quiet
undo_by-requires-clause-quiet g c = c.requires.quiet
