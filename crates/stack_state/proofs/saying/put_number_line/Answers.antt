use Rattle.std.proofs.Common.{[], ◌∷◌}
use Rattle.outside.proofs.Writing.{writes_stop, writes_then}
use Rattle.stack_state.proofs.saying.put_number_line.Goals as goal

pub returns-in_err-put_digits-clause-writes : goal.returns-in_err-put_digits-clause-writes
returns-in_err-put_digits-clause-writes g c = writes_stop c.in_err-put_digits.field-0.0 c.from_residual.result (10 ∷ []) c.from_residual.ensures.0 c.in_err-put_digits.ensures.writes

pub returns : goal.returns
returns g c = record {
  writes = writes_then c.in_ok-put_digits.field-0 c.put_end.result c.in_ok-put_digits.ensures.writes c.put_end.ensures.writes;
  rest = g.met.O.Sink.rest_both _ _ _ c.in_ok-put_digits.ensures.rest c.put_end.ensures.rest;
}
