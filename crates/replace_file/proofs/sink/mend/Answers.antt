use Rattle.std.proofs.Common.{[], refl, subst, ◌∙◌, sym}
use Rattle.std.proofs.lemmas.Bool.{false≢true}
use Rattle.std.proofs.lemmas.Result.{IfOk-from_err}
use Rattle.outside.specs.Quiet.{Holds, WorksOn}
use Rattle.outside.proofs.Quiet.{holds_put, works_none}
use Rattle.outside.specs.Calls.{IsThere, SealsStay}
use Rattle.outside.specs.TreeView.{passes_none}
use Rattle.replace_file.proofs.Runs.{run_ok, run_first}
use Rattle.replace_file.proofs.sink.mend.Goals as goal

pub returns-in_ok-begin_temp : goal.returns-in_ok-begin_temp
returns-in_ok-begin_temp g c = record {
  run = run_ok c.begin_temp.ensures.run.passes;
  works = subst (λ m. WorksOn (g.T.Tree.view c.args.tree.now) (g.T.Tree.view c.begin_temp.new.tree) m) c.name.ensures (c.begin_temp.ensures.works c.requires.quiet);
  seals = subst (λ m. SealsStay (g.T.Tree.view c.args.tree.now) (g.T.Tree.view c.begin_temp.new.tree) m) c.name.ensures c.begin_temp.ensures.seals;
  there = subst (λ m. IsThere (g.T.Tree.view c.begin_temp.new.tree) m) c.name.ensures c.in_ok-begin_temp.ensures.there;
  cause = λ err. absurd (false≢true err);
  anew = λ broken. (
      let v = g.T.Tree.view c.begin_temp.new.tree in
      subst (λ n. Holds v n []) c.name.ensures (holds_put (g.T.Tree.view c.args.tree.now) v c.name.result.now [] (λ f. []) c.begin_temp.ensures.run.passes c.in_ok-begin_temp.ensures.ok (λ f told. refl)));
  same = λ whole. absurd (false≢true (sym whole ∙ c.if-broken.true));
}

pub returns-in_err-begin_temp : goal.returns-in_err-begin_temp
returns-in_err-begin_temp g c = record {
  run = run_first c.begin_temp.ensures.run.passes (c.in_err-begin_temp.ensures.run.cause refl);
  works = subst (λ m. WorksOn (g.T.Tree.view c.args.tree.now) (g.T.Tree.view c.begin_temp.new.tree) m) c.name.ensures (c.begin_temp.ensures.works c.requires.quiet);
  seals = subst (λ m. SealsStay (g.T.Tree.view c.args.tree.now) (g.T.Tree.view c.begin_temp.new.tree) m) c.name.ensures c.begin_temp.ensures.seals;
  there = IfOk-from_err c.from_residual.result _ c.from_residual.ensures.0;
  cause = λ err. c.if-broken.true;
  anew = IfOk-from_err c.from_residual.result _ c.from_residual.ensures.0;
  same = λ whole. absurd (false≢true (sym whole ∙ c.if-broken.true));
}

pub returns-else-broken : goal.returns-else-broken
returns-else-broken g c = record {
  run = run_ok (passes_none (g.T.Tree.view c.args.tree.now));
  works = works_none (g.T.Tree.view c.args.tree.now) c.args.temp.now.name.now c.requires.quiet;
  seals = λ q ne was. was;
  there = c.requires.there c.if-broken.false;
  cause = λ err. absurd (false≢true err);
  anew = λ broken. absurd (false≢true (sym c.if-broken.false ∙ broken));
  same = λ whole. refl;
}
