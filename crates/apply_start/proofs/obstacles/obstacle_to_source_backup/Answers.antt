use Rattle.std.proofs.Common.{◌≡◌, ◌&&◌, Bool, true, IfOk, subst}
use Rattle.std.specs.Option.{ForSome}
use Rattle.read_file_patch.specs.declared.derived.Target.{Target}
use Rattle.apply_task.specs.Asking.{renames}
use Rattle.apply_task.specs.TaskView.{plain_task}
use Rattle.apply_start.specs.Refusing.{IsForBackup}
use Rattle.apply_start.proofs.obstacles.obstacle_to_source_backup.Goals as goal

pub returns-clause-names : goal.returns-clause-names
returns-clause-names g c =
    let r = c.obstacle_to_backup.result in
    subst (λ (w : Target). IfOk r (λ found. ForSome found (λ barrier. ((c.args.task.now.options.now.backup && renames (plain_task c.args.task.now).item.patch) ≡ true) × IsForBackup w barrier))) c.chosen.ensures.target
    (subst (λ (b : Bool). IfOk r (λ found. ForSome found (λ barrier. (b ≡ true) × IsForBackup c.chosen.result.now barrier))) c.keeps_source.ensures c.obstacle_to_backup.ensures.names)
