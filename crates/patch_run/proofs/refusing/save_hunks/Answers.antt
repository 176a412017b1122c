use Rattle.std.proofs.Common.{refl}
use Rattle.outside.specs.TreeView.{passes_none}
use Rattle.outside.specs.Calls.{untouched_none}
use Rattle.patch_run.proofs.refusing.save_hunks.Goals as goal

pub returns-in-Err : goal.returns-in-Err
returns-in-Err g c = record {
  tree = passes_none (g.T.Tree.view c.args.tree.now);
  sink = c.tell_refused.ensures.writes.call.passes;
  cause = c.in-Err.ensures.writes.call.cause refl;
  said = tt;
  was = tt;
  put = tt;
  quiet = tt;
  tidy = tt;
  rest = c.tell_refused.ensures.rest;
  unsaved = λ no. untouched_none (g.T.Tree.view c.args.tree.now);
}

pub returns-in-Ok-put_hunks : goal.returns-in-Ok-put_hunks
returns-in-Ok-put_hunks g c = record {
  tree = c.put_hunks.ensures.run.passes;
  sink = c.tell_refused.ensures.writes.call.passes;
  cause = tt;
  said = c.in-Ok.ensures.writes.received;
  was = refl;
  put = c.in-Ok-put_hunks.ensures.put;
  quiet = c.in-Ok-put_hunks.ensures.quiet;
  tidy = c.in-Ok-put_hunks.ensures.tidy;
  rest = c.tell_refused.ensures.rest;
  unsaved = c.put_hunks.ensures.unsaved;
}

pub returns-in-Err-put_hunks : goal.returns-in-Err-put_hunks
returns-in-Err-put_hunks g c = record {
  tree = c.put_hunks.ensures.run.passes;
  sink = c.tell_refused.ensures.writes.call.passes;
  cause = c.in-Err-put_hunks.ensures.run.cause refl;
  said = tt;
  was = tt;
  put = tt;
  quiet = tt;
  tidy = tt;
  rest = c.tell_refused.ensures.rest;
  unsaved = c.put_hunks.ensures.unsaved;
}

pub tell_refused-requires-clause-turn : goal.tell_refused-requires-clause-turn
tell_refused-requires-clause-turn g c = c.requires.turn

pub tell_refused-requires-clause-named : goal.tell_refused-requires-clause-named
tell_refused-requires-clause-named g c = c.requires.named

pub put_hunks-requires-clause-turn : goal.put_hunks-requires-clause-turn
put_hunks-requires-clause-turn g c = c.requires.turn

pub put_hunks-requires-clause-named : goal.put_hunks-requires-clause-named
put_hunks-requires-clause-named g c = c.requires.named

pub put_hunks-requires-clause-rows : goal.put_hunks-requires-clause-rows
put_hunks-requires-clause-rows g c = c.requires.rows

pub put_hunks-requires-clause-saves : goal.put_hunks-requires-clause-saves
put_hunks-requires-clause-saves g c = c.requires.saves

pub put_hunks-requires-clause-quiet : goal.put_hunks-requires-clause-quiet
put_hunks-requires-clause-quiet g c = c.requires.quiet
