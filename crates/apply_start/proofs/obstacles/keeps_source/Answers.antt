use Rattle.std.proofs.Common.{◌&&◌, Bool, sym, ◌∙◌, ap}
use Rattle.apply_task.specs.Asking.{renames}
use Rattle.apply_task.specs.TaskView.{plain_task}
use Rattle.apply_start.proofs.obstacles.keeps_source.Goals as goal

pub returns-then-task : goal.returns-then-task
returns-then-task c = c.renames.ensures c.args.task.now.set.now.text ∙ ap (λ (b : Bool). b && renames (plain_task c.args.task.now).item.patch) (sym c.if-task.true)
