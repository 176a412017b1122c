use Rattle.outside.proofs.Writing.{writes_stop, writes_then}
use Rattle.apply_outcome.proofs.rejects.put_texts.Goals as goal

pub returns : goal.returns
returns g c = record {
  writes = writes_then c.in_ok-put_earlier.field-0 c.put_own.result c.in_ok-put_earlier.ensures.writes c.put_own.ensures.writes;
  rest = g.met.O.Sink.rest_both _ _ _ c.in_ok-put_earlier.ensures.rest c.put_own.ensures.rest;
}

pub returns-in_err-put_earlier : goal.returns-in_err-put_earlier
returns-in_err-put_earlier g c = record {
  writes = writes_stop c.in_err-put_earlier.field-0.0 c.from_residual.result _ c.from_residual.ensures.0 c.in_err-put_earlier.ensures.writes;
  rest = c.in_err-put_earlier.ensures.rest;
}

pub put_own-requires-clause-rows : goal.put_own-requires-clause-rows
put_own-requires-clause-rows g c = c.requires.rows

pub put_own-requires-clause-hunks : goal.put_own-requires-clause-hunks
put_own-requires-clause-hunks g c = c.requires.hunks

pub put_own-requires-clause-turn : goal.put_own-requires-clause-turn
put_own-requires-clause-turn g c = c.requires.turn

pub put_own-requires-clause-named : goal.put_own-requires-clause-named
put_own-requires-clause-named g c = c.requires.named

pub put_own-requires-clause-fit : goal.put_own-requires-clause-fit
put_own-requires-clause-fit g c = c.requires.turn.task.fit

pub put_earlier-requires : goal.put_earlier-requires
put_earlier-requires g c = record { turn = c.requires.turn }
