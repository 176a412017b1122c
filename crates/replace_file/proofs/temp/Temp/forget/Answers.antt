use Rattle.outside.proofs.Quiet.{quiet_kept}
use Rattle.replace_file.proofs.Work.{worked, only_gone}
use Rattle.replace_file.proofs.temp.Temp.forget.Goals as goal

pub returns-clause-works : goal.returns-clause-works
returns-clause-works g c =
    let u = g.T.Tree.view c.args.tree.now in
    let v = g.T.Tree.view c.drop_name.new.self in
    let n = c.args.self.name.now in
    let is = c.args.self.temporary in
    let e = c.drop_name.ensures in
    let only = only_gone c.drop_name.result u v n e.ok e.err in
    worked u v c.drop_name.result n is e.call (quiet_kept u v n is e.quiet) e.seals only
