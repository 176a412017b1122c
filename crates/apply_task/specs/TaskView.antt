-- A file patch that is carried out, as its run sees it.
use Rattle.std.specs.Prelude.{List}
use Rattle.patch_options.specs.PlainJob.{plain_options}
use Rattle.apply_task.specs.declared.task.Task.{Task}
use Rattle.apply_task.specs.Contexts.{PastFilePatch, PlainContext}
use Rattle.apply_task.specs.Ready.{IsReady, IsFit, alone}

-- its turn, without what was before it
abbrev pub plain_task : Task → PlainContext
plain_task t = alone (plain_options t.options.now) t.set.now t.patch.now

-- its turn behind file patches with these marks
abbrev pub with_past : List PastFilePatch → PlainContext → PlainContext
with_past past t = record t { past = past }

-- the set can be carried out, and the file patch is fit to be
pub record IsTask (t : Task) : Type 0 where
  pub ready : IsReady (plain_options t.options.now) t.set.now
  pub fit : IsFit t.set.now.text t.patch.now
