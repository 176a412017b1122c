use Rattle.std.proofs.Common.{refl}
use Rattle.std.proofs.lemmas.Result.{IfOk-from_err}
use Rattle.outside.proofs.Quiet.{only_same, only_spoils, quiet_kept}
use Rattle.replace_file.proofs.Work.{worked, there_same}
use Rattle.replace_file.proofs.Runs.{run_ok, run_first, on_err_from}
use Rattle.replace_file.proofs.temp.Temp.seal.Goals as goal

pub returns-in_err-seal : goal.returns-in_err-seal
returns-in_err-seal g c = record {
  name = IfOk-from_err c.from_residual.result _ c.from_residual.ensures.0;
  run = run_first c.seal.ensures.call.passes (c.in_err-seal.ensures.call.cause refl);
  ok = IfOk-from_err c.from_residual.result _ c.from_residual.ensures.0;
  there = IfOk-from_err c.from_residual.result _ c.from_residual.ensures.0;
  sealed = IfOk-from_err c.from_residual.result _ c.from_residual.ensures.0;
  err = on_err_from c.from_residual.result c.in_err-seal.ensures.err;
  seals = c.seal.ensures.seals;
  works = (
      let u = g.T.Tree.view c.args.tree.now in
      let v = g.T.Tree.view c.seal.new.self in
      let is = c.args.self.temporary in
      worked u v c.seal.result c.args.self.name.now is c.seal.ensures.call (quiet_kept u v c.args.self.name.now is c.seal.ensures.quiet) c.seal.ensures.seals (only_spoils u v c.args.self.name.now c.in_err-seal.ensures.err));
}

pub returns-clause-works : goal.returns-clause-works
returns-clause-works g c =
    let u = g.T.Tree.view c.args.tree.now in
    let v = g.T.Tree.view c.seal.new.self in
    let is = c.args.self.temporary in
    worked u v c.seal.result c.args.self.name.now is c.seal.ensures.call (quiet_kept u v c.args.self.name.now is c.seal.ensures.quiet) c.seal.ensures.seals (only_same u v c.args.self.name.now c.in_ok-seal.ensures.ok)

pub returns-clause-there : goal.returns-clause-there
returns-clause-there g c = there_same (g.T.Tree.view c.args.tree.now) (g.T.Tree.view c.seal.new.self) c.args.self.name.now c.seal.ensures.call.passes c.in_ok-seal.ensures.ok c.requires

pub returns-clause-run : goal.returns-clause-run
returns-clause-run g c = run_ok c.seal.ensures.call.passes

pub returns-clause-name : goal.returns-clause-name
returns-clause-name g c = refl

pub returns-clause-ok : goal.returns-clause-ok
returns-clause-ok g c = c.in_ok-seal.ensures.ok

pub returns-clause-err : goal.returns-clause-err
returns-clause-err g c = tt

pub returns-clause-seals : goal.returns-clause-seals
returns-clause-seals g c = c.seal.ensures.seals

pub seal-requires : goal.seal-requires
seal-requires g c = c.requires
