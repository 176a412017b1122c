use Rattle.std.proofs.Common.{◌≡◌, List, Some}
use Rattle.series_stack.specs.Saves.{Entry, entries_of}
use Rattle.series_stack.specs.Restoring.{Restores}
use Rattle.series_stack.proofs.Going.{some_of, at_some, all_files}
use Rattle.series_stack.proofs.Steps.{restores_tells, restores_leaves}
use Rattle.series_stack.proofs.files.restore.Goals as goal

pub returns : goal.returns
returns g c =
    let u = g.T.Tree.view c.args.tree.now in
    let w = g.T.Tree.view c.restore_all.new.tree in
    let o = entries_of c.args.save.now in
    let es = some_of o c.requires.save in
    let all = λ (ds : List Entry) (is : o ≡ Some ds). at_some (λ (l : List Entry). Restores u w c.restore_all.result l) o ds is c.restore_all.ensures.makes in
    let one = all es.0 es.1 in
    record {
      passes = one.passes;
      quiet = one.quiet;
      seals = one.seals;
      files = all_files u w o c.restore_all.result all;
      tells = λ ds f is told. restores_tells c.restore_all.result (all ds is) f told;
      leaves = λ ds f is told. restores_leaves c.restore_all.result (all ds is) f told;
      cause = c.restore_all.ensures.cause;
    }
