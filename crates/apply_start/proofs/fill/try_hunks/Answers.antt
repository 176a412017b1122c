use Rattle.std.proofs.Common.{refl, sym, ◌∙◌, None, subst}
use Rattle.std.proofs.lemmas.Bool.{false≢true}
use Rattle.std.proofs.lemmas.Result.{on_ok_weaker, IfOk-weaker}
use Rattle.outside.proofs.Quiet.{works_none}
use Rattle.outside.proofs.Exits.{if_ok_none, on_ok_none}
use Rattle.apply_task.proofs.Tidy.{gone_tidy, unmade_tidy}
use Rattle.hunk_apply.proofs.FaultLemmas.{if-err-still}
use Rattle.apply_start.specs.Trying.{IsBegun, HasTryCause}
use Rattle.apply_start.proofs.Trying.{line_cause, begun_some}
use Rattle.apply_start.proofs.fill.try_hunks.Goals as goal

pub returns-in_ok-session : goal.returns-in_ok-session
returns-in_ok-session g c = record {
  works = works_none (g.T.Tree.view c.args.tree.now) c.args.temp.now c.requires.quiet;
  keeps = c.in_ok-session.ensures.keeps;
  session = c.in_ok-session.ensures.session;
  verdicts = c.in_ok-session.ensures.verdicts;
  tried = c.in_ok-session.ensures.tried;
  rows = c.in_ok-session.ensures.rows;
  cause = tt;
  tidy = tt;
  dry = λ dry. refl;
  there = λ wet. absurd (false≢true (sym wet ∙ c.if-task.true));
  holds = λ lines told wet. absurd (false≢true (sym wet ∙ c.if-task.true));
  begun = subst (λ dry. IsBegun dry None c.args.temp.now) (sym c.if-task.true) tt;
}

pub returns-in_err-session : goal.returns-in_err-session
returns-in_err-session g c = record {
  tidy = unmade_tidy (g.T.Tree.view c.args.tree.now) c.from_residual.result;
  keeps = c.in_err-session.ensures.keeps;
  rows = c.in_err-session.ensures.rows;
  works = works_none (g.T.Tree.view c.args.tree.now) c.args.temp.now c.requires.quiet;
  begun = if_ok_none _ _ c.from_residual.result c.from_residual.ensures.1;
  session = if_ok_none _ _ c.from_residual.result c.from_residual.ensures.1;
  there = on_ok_none _ _ c.from_residual.result c.from_residual.ensures.1;
  holds = on_ok_none _ _ c.from_residual.result c.from_residual.ensures.1;
  verdicts = on_ok_none _ _ c.from_residual.result c.from_residual.ensures.1;
  tried = on_ok_none _ _ c.from_residual.result c.from_residual.ensures.1;
  dry = λ dry. refl;
  cause = (
      let fault = c.in_err-session.field-0.0 in
      if-err-still (λ e. HasTryCause e (g.T.Tree.view c.args.tree.now) (g.T.Tree.view c.args.tree.now) (g.P.LineStore.seen c.args.plan.now) (g.P.LineStore.seen c.try_dry.new.plan)) fault c.from_residual.result c.from_residual.ensures.1 (line_cause fault (g.T.Tree.view c.args.tree.now) (g.T.Tree.view c.args.tree.now) (g.P.LineStore.seen c.args.plan.now) (g.P.LineStore.seen c.try_dry.new.plan) c.in_err-session.ensures.cause));
}

pub returns-else-task : goal.returns-else-task
returns-else-task g c = record {
  tidy = gone_tidy c.args.temp.now c.fill_temp.result c.fill_temp.ensures.works c.fill_temp.ensures.gone;
  works = c.fill_temp.ensures.works;
  keeps = c.fill_temp.ensures.keeps;
  cause = c.fill_temp.ensures.cause;
  session = c.fill_temp.ensures.session;
  verdicts = c.fill_temp.ensures.verdicts;
  tried = c.fill_temp.ensures.tried;
  rows = c.fill_temp.ensures.rows;
  dry = λ dry. absurd (false≢true (sym c.if-task.false ∙ dry));
  there = on_ok_weaker c.fill_temp.result (λ there wet. there) c.fill_temp.ensures.there;
  holds = on_ok_weaker c.fill_temp.result (λ holds lines told wet. holds lines told) c.fill_temp.ensures.holds;
  begun = IfOk-weaker c.fill_temp.result _ _ (λ attempt is. begun_some c.args.task.now.options.now.dry_run attempt.temp c.args.temp.now c.if-task.false is) c.fill_temp.ensures.begun;
}

pub fill_temp-requires-clause-task : goal.fill_temp-requires-clause-task
fill_temp-requires-clause-task g c = c.requires.task

pub fill_temp-requires-clause-temp : goal.fill_temp-requires-clause-temp
fill_temp-requires-clause-temp g c = c.requires.temp

pub fill_temp-requires-clause-rows : goal.fill_temp-requires-clause-rows
fill_temp-requires-clause-rows g c = c.requires.rows

pub fill_temp-requires-clause-quiet : goal.fill_temp-requires-clause-quiet
fill_temp-requires-clause-quiet g c = c.requires.quiet

pub try_dry-requires-clause-rows : goal.try_dry-requires-clause-rows
try_dry-requires-clause-rows g c = c.requires.rows

pub try_dry-requires-clause-task : goal.try_dry-requires-clause-task
try_dry-requires-clause-task g c = c.requires.task
