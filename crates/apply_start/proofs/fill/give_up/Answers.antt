use Rattle.apply_task.proofs.Making.{remove_gone}
use Rattle.apply_task.proofs.Tidy.{unless_held}
use Rattle.apply_start.proofs.fill.give_up.Goals as goal

pub returns-in-Ok-clause-gone : goal.returns-in-Ok-clause-gone
returns-in-Ok-clause-gone g c = unless_held _ (remove_gone (g.T.Tree.view c.args.tree.now) (g.T.Tree.view c.forget.new.tree) c.args.temp.name.now c.in-Ok.ensures.ok c.in-Ok.ensures.run.passes)
