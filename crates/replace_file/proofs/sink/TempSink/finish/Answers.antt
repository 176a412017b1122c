use Rattle.std.proofs.Common.{refl}
use Rattle.std.proofs.lemmas.Result.{IfOk-from_err}
use Rattle.replace_file.proofs.Sinking.{works_around}
use Rattle.replace_file.proofs.Runs.{run_ok, run_first}
use Rattle.replace_file.proofs.sink.TempSink.finish.Goals as goal

pub returns-in_err-mend : goal.returns-in_err-mend
returns-in_err-mend g c = record {
  run = run_first c.mend.ensures.run.passes (c.in_err-mend.ensures.run.cause refl);
  rest = (
      let self = c.args.self.now in
      let stands = g.met.T.Tree.told_may_stay in (
        refl,
        refl,
        works_around (g.T.Tree.view self.tree.now) (g.T.Tree.view c.mend.new.tree) self.temp.name.now self.temp.temporary self.quiet (stands self.tree.now) (stands c.mend.new.tree) c.mend.ensures.works c.mend.ensures.seals,
      ));
  there = IfOk-from_err c.from_residual.result _ c.from_residual.ensures.0;
  told = IfOk-from_err c.from_residual.result _ c.from_residual.ensures.0;
  mended = IfOk-from_err c.from_residual.result _ c.from_residual.ensures.0;
  anew = IfOk-from_err c.from_residual.result _ c.from_residual.ensures.0;
  stays = IfOk-from_err c.from_residual.result _ c.from_residual.ensures.0;
}

pub returns-clause-rest : goal.returns-clause-rest
returns-clause-rest g c =
    let self = c.args.self.now in
    let stands = g.met.T.Tree.told_may_stay in (
      refl,
      refl,
      works_around (g.T.Tree.view self.tree.now) (g.T.Tree.view c.mend.new.tree) self.temp.name.now self.temp.temporary self.quiet (stands self.tree.now) (stands c.mend.new.tree) c.mend.ensures.works c.mend.ensures.seals,
    )

pub mend-requires-clause-quiet : goal.mend-requires-clause-quiet
mend-requires-clause-quiet g c = c.args.self.now.quiet

pub mend-requires-clause-there : goal.mend-requires-clause-there
mend-requires-clause-there g c = c.args.self.now.there

pub returns-clause-run : goal.returns-clause-run
returns-clause-run g c = run_ok c.mend.ensures.run.passes

pub returns-clause-there : goal.returns-clause-there
returns-clause-there g c = c.in_ok-mend.ensures.there

pub returns-clause-mended : goal.returns-clause-mended
returns-clause-mended g c = refl

pub returns-clause-anew : goal.returns-clause-anew
returns-clause-anew g c = c.in_ok-mend.ensures.anew

pub returns-clause-stays : goal.returns-clause-stays
returns-clause-stays g c = c.mend.ensures.same
