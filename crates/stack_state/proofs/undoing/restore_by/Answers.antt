use Rattle.apply_task.specs.declared.fault.RunFault.TheVariants.{Tree, Memory}
use Rattle.stack_state.proofs.Restoring.{restored_whole, restored_part, tree_failed}
use Rattle.stack_state.proofs.undoing.restore_by.Goals as goal

pub returns-in-Ok : goal.returns-in-Ok
returns-in-Ok g c s = restored_whole (g.T.Tree.view c.args.tree.now) (g.T.Tree.view c.restore.new.tree) s c.args.save.now c.requires.save c.in-Ok.ensures.passes c.in-Ok.ensures.leaves tt c.in-Ok.ensures.quiet c.in-Ok.ensures.files

pub returns-in-Err-Tree : goal.returns-in-Err-Tree
returns-in-Err-Tree g c s = restored_part (g.T.Tree.view c.args.tree.now) (g.T.Tree.view c.restore.new.tree) s c.args.save.now c.requires.save c.restore.ensures.passes c.restore.ensures.leaves Tree (tree_failed (g.T.Tree.view c.args.tree.now) (g.T.Tree.view c.restore.new.tree) c.in-Err-Tree.field-0 c.in-Err-Tree.field-0-is c.in-Err-Tree.ensures.cause) c.restore.ensures.tells

pub returns-in-Err : goal.returns-in-Err
returns-in-Err g c s = restored_part (g.T.Tree.view c.args.tree.now) (g.T.Tree.view c.restore.new.tree) s c.args.save.now c.requires.save c.restore.ensures.passes c.restore.ensures.leaves Memory tt c.restore.ensures.tells

pub restore-requires-clause-save : goal.restore-requires-clause-save
restore-requires-clause-save g c = c.requires.save

pub restore-requires-clause-quiet : goal.restore-requires-clause-quiet
restore-requires-clause-quiet g c = c.requires.quiet
