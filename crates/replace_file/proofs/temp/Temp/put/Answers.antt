use Rattle.std.proofs.Common.{◌++◌}
use Rattle.std.proofs.lemmas.Result.{on_ok_weaker}
use Rattle.outside.specs.Files.{bytes_at}
use Rattle.outside.proofs.Quiet.{only_either, there_put, quiet_kept}
use Rattle.replace_file.proofs.Work.{worked}
use Rattle.replace_file.proofs.temp.Temp.put.Goals as goal

pub returns-clause-there : goal.returns-clause-there
returns-clause-there g c =
    let n = c.args.self.now.name.now in
    on_ok_weaker c.append.result (λ ok. there_put (g.T.Tree.view c.args.tree.now) (g.T.Tree.view c.append.new.self) n (λ f. bytes_at f n ++ c.args.piece.now) c.append.ensures.call.passes ok) c.append.ensures.ok

pub returns-clause-works : goal.returns-clause-works
returns-clause-works g c =
    let u = g.T.Tree.view c.args.tree.now in
    let v = g.T.Tree.view c.append.new.self in
    let n = c.args.self.now.name.now in
    let e = c.append.ensures in
    let is = c.args.self.now.temporary in
    worked u v c.append.result n is e.call (quiet_kept u v n is e.quiet) e.seals (only_either c.append.result u v n (λ f. bytes_at f n ++ c.args.piece.now) e.ok e.err)
