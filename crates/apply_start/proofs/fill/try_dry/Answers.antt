use Rattle.outside.proofs.Exits.{if_ok_none, on_ok_none}
use Rattle.apply_start.proofs.fill.try_dry.Goals as goal

pub returns : goal.returns
returns g c = record {
  tried = c.in_ok-session.ensures.tried;
  rows = c.in_ok-session.ensures.rows;
  verdicts = c.in_ok-session.ensures.verdicts;
  session = c.in_ok-session.ensures.session;
  keeps = c.in_ok-session.ensures.keeps;
  cause = tt;
}

pub returns-in_err-session-clause-rows : goal.returns-in_err-session-clause-rows
returns-in_err-session-clause-rows g c = c.in_err-session.ensures.rows

pub returns-in_err-session-clause-keeps : goal.returns-in_err-session-clause-keeps
returns-in_err-session-clause-keeps g c = c.in_err-session.ensures.keeps

pub returns-in_err-session-clause-verdicts : goal.returns-in_err-session-clause-verdicts
returns-in_err-session-clause-verdicts g c = on_ok_none _ _ c.from_residual.result c.from_residual.ensures.1

pub returns-in_err-session-clause-tried : goal.returns-in_err-session-clause-tried
returns-in_err-session-clause-tried g c = on_ok_none _ _ c.from_residual.result c.from_residual.ensures.1

pub returns-in_err-session-clause-session : goal.returns-in_err-session-clause-session
returns-in_err-session-clause-session g c = if_ok_none _ _ c.from_residual.result c.from_residual.ensures.1

pub try_nowhere-requires-clause-rows : goal.try_nowhere-requires-clause-rows
try_nowhere-requires-clause-rows g c = c.requires.rows

pub try_nowhere-requires-clause-task : goal.try_nowhere-requires-clause-task
try_nowhere-requires-clause-task g c = c.requires.task
