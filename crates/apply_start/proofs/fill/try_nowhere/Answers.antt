use Rattle.apply_start.proofs.fill.try_nowhere.Goals as goal

pub try_plain-requires-clause-rows : goal.try_plain-requires-clause-rows
try_plain-requires-clause-rows g c = c.requires.rows

pub try_plain-requires-clause-task : goal.try_plain-requires-clause-task
try_plain-requires-clause-task g c = c.requires.task

pub returns-in-Err-Line-clause-tried : goal.returns-in-Err-Line-clause-tried
returns-in-Err-Line-clause-tried g c = tt

pub returns-in-Err-Line-clause-verdicts : goal.returns-in-Err-Line-clause-verdicts
returns-in-Err-Line-clause-verdicts g c = tt

pub returns-in-Err-Line-clause-session : goal.returns-in-Err-Line-clause-session
returns-in-Err-Line-clause-session g c = tt

pub returns-in-Err-Line-clause-rows : goal.returns-in-Err-Line-clause-rows
returns-in-Err-Line-clause-rows g c = c.try_plain.ensures.rows

pub returns-in-Err-Line-clause-keeps : goal.returns-in-Err-Line-clause-keeps
returns-in-Err-Line-clause-keeps g c = c.try_plain.ensures.keeps

pub returns-in-Ok : goal.returns-in-Ok
returns-in-Ok g c = record {
  tried = c.in-Ok.ensures.tried;
  verdicts = c.in-Ok.ensures.verdicts;
  session = c.in-Ok.ensures.session;
  rows = c.try_plain.ensures.rows;
  keeps = c.try_plain.ensures.keeps;
  cause = tt;
}
