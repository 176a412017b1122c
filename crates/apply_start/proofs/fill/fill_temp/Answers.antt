use Rattle.std.proofs.Common.{◌≡◌, ℕ, List, [], Some, OnOk, IfErr, refl, subst, sym, IfOk}
use Rattle.outside.specs.Calls.{IsThere}
use Rattle.outside.specs.Quiet.{WorksOn, Holds}
use Rattle.outside.proofs.Quiet.{holds_put, works_both}
use Rattle.apply_task.specs.Making.{IsGone, UnlessFailed}
use Rattle.apply_task.specs.Outputs.{tried}
use Rattle.apply_task.specs.TaskView.{plain_task}
use Rattle.std.specs.Option.{IsSomeAnd}
use Rattle.std.proofs.lemmas.Result.{IfErr-weaker}
use Rattle.apply_start.proofs.Trying.{cause_after}
use Rattle.line_store.proofs.StoreLemmas.{keeps-same}
use Rattle.apply_start.proofs.fill.fill_temp.Goals as goal

pub fill_begun-requires-clause-empty : goal.fill_begun-requires-clause-empty
fill_begun-requires-clause-empty g c =
    let view = g.T.Tree.view in
    subst (λ n. Holds (view c.begin_temp.new.tree) n []) (sym c.in-Ok.ensures.name)
    (holds_put (view c.args.tree.now) (view c.begin_temp.new.tree) c.args.temp.now [] (λ f. []) c.begin_temp.ensures.run.passes c.in-Ok.ensures.ok (λ f told. refl))

pub returns : goal.returns
returns g c = record {
  works = (
      let view = g.T.Tree.view in
      works_both (view c.args.tree.now) (view c.begin_temp.new.tree) (view c.fill_begun.new.tree) c.args.temp.now c.requires.temp (c.begin_temp.ensures.works c.requires.quiet)
      (subst (λ n. WorksOn (view c.begin_temp.new.tree) (view c.fill_begun.new.tree) n) c.in-Ok.ensures.name c.fill_begun.ensures.works));
  gone = (
      let w = g.T.Tree.view c.fill_begun.new.tree in
      subst (λ n. IfErr c.fill_begun.result (λ e. UnlessFailed e (IsGone w n))) c.in-Ok.ensures.name c.fill_begun.ensures.gone);
  keeps = c.fill_begun.ensures.keeps;
  session = c.fill_begun.ensures.session;
  verdicts = c.fill_begun.ensures.verdicts;
  tried = c.fill_begun.ensures.tried;
  rows = c.fill_begun.ensures.rows;
  there = (
      let w = g.T.Tree.view c.fill_begun.new.tree in
      subst (λ n. OnOk c.fill_begun.result (IsThere w n)) c.in-Ok.ensures.name c.fill_begun.ensures.there);
  holds = (
      let w = g.T.Tree.view c.fill_begun.new.tree in
      let a = g.P.LineStore.seen c.args.plan.now in
      let t = plain_task c.args.task.now in
      subst (λ n. OnOk c.fill_begun.result ((lines : List (List ℕ)) → a.told ≡ Some lines → Holds w n (tried t c.args.side lines).output)) c.in-Ok.ensures.name c.fill_begun.ensures.holds);
  cause = IfErr-weaker c.fill_begun.result _ _ (λ e is. cause_after e (g.T.Tree.view c.args.tree.now) (g.T.Tree.view c.begin_temp.new.tree) (g.T.Tree.view c.fill_begun.new.tree) (g.P.LineStore.seen c.args.plan.now) (g.P.LineStore.seen c.fill_begun.new.plan) c.begin_temp.ensures.run.passes is) c.fill_begun.ensures.cause;
  begun = subst (λ n. IfOk c.fill_begun.result (λ attempt. IsSomeAnd attempt.temp (λ begun. begun.name.now ≡ n))) c.in-Ok.ensures.name c.fill_begun.ensures.begun;
}

pub returns-in-Err : goal.returns-in-Err
returns-in-Err g c = record {
  works = c.begin_temp.ensures.works c.requires.quiet;
  keeps = keeps-same _;
  cause = c.in-Err.ensures.run.cause refl;
  begun = tt;
  there = tt;
  holds = tt;
  session = tt;
  verdicts = tt;
  tried = tt;
  rows = refl;
  gone = tt;
}

pub fill_begun-requires-clause-rows : goal.fill_begun-requires-clause-rows
fill_begun-requires-clause-rows g c = c.requires.rows

pub fill_begun-requires-clause-task : goal.fill_begun-requires-clause-task
fill_begun-requires-clause-task g c = c.requires.task

pub fill_begun-requires-clause-quiet : goal.fill_begun-requires-clause-quiet
fill_begun-requires-clause-quiet g c = (c.begin_temp.ensures.works c.requires.quiet).quiet

pub begin_temp-requires : goal.begin_temp-requires
begin_temp-requires g c = c.requires.temp
