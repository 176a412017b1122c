-- A file patch whose turn it is, as a run sees it.
use Rattle.std.specs.Prelude.{◌≡◌, ◌≤◌, ◌==◌, length}
use Rattle.patch_options.specs.PlainJob.{plain_options}
use Rattle.apply_task.specs.TaskView.{plain_task, with_past, IsTask}
use Rattle.apply_outcome.specs.declared.context.FilePatchContext.{FilePatchContext}
use Rattle.apply_task.specs.Contexts.{PlainContext}
use Rattle.apply_outcome.specs.Ready.{HasVerdicts, AreWritten, marks}

abbrev pub plain_context : FilePatchContext → PlainContext
plain_context t = with_past (marks (plain_options t.task.options.now) t.task.set.now t.count t.verdicts.now) (plain_task t.task)

-- it is a file patch that is carried out, and those before it have their verdicts and the names that they made or took away
pub record IsContext (t : FilePatchContext) : Type 0 where
  pub task : IsTask t.task
  pub first : t.task.is_first ≡ (t.count == 0)
  pub within : t.count ≤ length t.task.set.now.patches
  pub past : HasVerdicts t.task.set.now t.count t.verdicts.now
  pub written : AreWritten t.written.now (plain_context t).past
