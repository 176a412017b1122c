use Rattle.std.proofs.Common.{◌&&◌, ◌∙◌, ap}
use Rattle.read_file_patch.specs.declared.derived.Target.{Target}
use Rattle.apply_task.specs.TaskView.{plain_task}
use Rattle.apply_task.specs.Contexts.{is_source, written}
use Rattle.apply_start.proofs.choices.is_needed.Goals as goal

pub returns-then-moves_at : goal.returns-then-moves_at
returns-then-moves_at c =
    let t = plain_task c.args.task.now in
    c.is_source.ensures
    ∙ ap (λ (w : Target). is_source t w.name) c.written.ensures.target
    ∙ ap (λ b. b && is_source t (written t c.args.place).name) (c.if-moves_at.ensures c.args.task.now.set.now.text)

pub returns-else-moves_at : goal.returns-else-moves_at
returns-else-moves_at c =
    let t = plain_task c.args.task.now in
    c.if-moves_at.false ∙ ap (λ b. b && is_source t (written t c.args.place).name) (c.if-moves_at.ensures c.args.task.now.set.now.text)
