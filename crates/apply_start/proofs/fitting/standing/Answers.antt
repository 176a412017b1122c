use Rattle.std.proofs.Common.{Bool, if◌then◌else◌, ◌∙◌, ap}
use Rattle.std.proofs.lemmas.Result.{IfOk-weaker}
use Rattle.std.specs.FinMap.{get}
use Rattle.read_file_patch.specs.declared.derived.Target.{Target}
use Rattle.apply_task.specs.Contexts.{written, bytes_of}
use Rattle.apply_task.specs.TaskView.{plain_task}
use Rattle.apply_start.specs.Fitting.{standing_of}
use Rattle.apply_start.proofs.fitting.standing.Goals as goal

pub returns-then-is_moved-clause-standing : goal.returns-then-is_moved-clause-standing
returns-then-is_moved-clause-standing g c =
    let t = plain_task c.args.task.now in
    let place = c.args.place in
    IfOk-weaker c.standing_at.result _ _
    (λ s is f told.
    is f told
    ∙ ap (λ (w : Target). standing_of (get f w.name)) c.written.ensures.target
    ∙ ap (λ (b : Bool). standing_of (if b then get f (written t place).name else bytes_of t f place)) c.if-is_moved.ensures)
    c.standing_at.ensures.standing

pub returns-else-is_moved-clause-standing : goal.returns-else-is_moved-clause-standing
returns-else-is_moved-clause-standing g c =
    let t = plain_task c.args.task.now in
    let place = c.args.place in
    IfOk-weaker c.standing_at-else-is_moved.result _ _
    (λ s is f told.
    is f told
    ∙ ap (λ (w : Target). standing_of (get f w.name)) c.chosen.ensures.target
    ∙ ap (λ (b : Bool). standing_of (if b then get f (written t place).name else bytes_of t f place)) c.if-is_moved.ensures)
    c.standing_at-else-is_moved.ensures.standing

pub written-requires-clause-task : goal.written-requires-clause-task
written-requires-clause-task g c = c.requires.task

pub written-requires-clause-within : goal.written-requires-clause-within
written-requires-clause-within g c = c.requires.within

pub chosen-requires-clause-task : goal.chosen-requires-clause-task
chosen-requires-clause-task g c = c.requires.task

pub chosen-requires-clause-within : goal.chosen-requires-clause-within
chosen-requires-clause-within g c = c.requires.within
