use Rattle.std.proofs.Common.{List, ◌∙◌, ap}
use Rattle.std.specs.Prelude.{slice_get}
use Rattle.read_file_patch.specs.declared.derived.Target.{Target}
use Rattle.apply_task.proofs.Getting.{got}
use Rattle.apply_task.proofs.names.target_in.Goals as goal

pub returns-clause-target : goal.returns-clause-target
returns-clause-target c =
    got c.get.result c.deref.result.now c.args.place c.get.ensures.lookup.1 c.get.ensures.lookup.3
    ∙ ap (λ (xs : List Target). slice_get xs c.args.place) c.deref.ensures.value
