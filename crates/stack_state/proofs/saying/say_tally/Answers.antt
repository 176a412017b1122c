use Rattle.std.proofs.Common.{[], ◌∷◌, ◌++◌, codes}
use Rattle.num_text.specs.Numbers.{decimal}
use Rattle.outside.proofs.Writing.{stop_all, then_all, writes_stop, writes_then}
use Rattle.stack_state.proofs.saying.say_tally.Goals as goal

pub returns-in_err-put_all : goal.returns-in_err-put_all
returns-in_err-put_all g c = record {
  writes = stop_all c.in_err-put_all.field-0.0 c.from_residual.result (codes "applied ") (decimal c.args.applied ++ (codes " of " ++ (decimal c.args.all ++ 10 ∷ []))) c.from_residual.ensures.0 c.in_err-put_all.ensures.call c.in_err-put_all.ensures.failed;
  rest = c.in_err-put_all.ensures.rest;
}

pub returns-in_err-put_digits : goal.returns-in_err-put_digits
returns-in_err-put_digits g c = record {
  writes = (
      then_all c.in_ok-put_all.field-0 c.from_residual-in_err-put_digits.result (codes "applied ") (decimal c.args.applied ++ (codes " of " ++ (decimal c.args.all ++ 10 ∷ []))) c.in_ok-put_all.ensures.call c.in_ok-put_all.ensures.received
      (writes_stop c.in_err-put_digits.field-0.0 c.from_residual-in_err-put_digits.result (codes " of " ++ (decimal c.args.all ++ 10 ∷ [])) c.from_residual-in_err-put_digits.ensures.0 c.in_err-put_digits.ensures.writes));
  rest = g.met.O.Sink.rest_both _ _ _ c.in_ok-put_all.ensures.rest c.in_err-put_digits.ensures.rest;
}

pub returns-in_err-put_all-2 : goal.returns-in_err-put_all-2
returns-in_err-put_all-2 g c = record {
  writes = (
      then_all c.in_ok-put_all.field-0 c.from_residual-in_err-put_all-2.result (codes "applied ") (decimal c.args.applied ++ (codes " of " ++ (decimal c.args.all ++ 10 ∷ []))) c.in_ok-put_all.ensures.call c.in_ok-put_all.ensures.received
      (writes_then c.in_ok-put_digits.field-0 c.from_residual-in_err-put_all-2.result c.in_ok-put_digits.ensures.writes
      (stop_all c.in_err-put_all-2.field-0.0 c.from_residual-in_err-put_all-2.result (codes " of ") (decimal c.args.all ++ 10 ∷ []) c.from_residual-in_err-put_all-2.ensures.0 c.in_err-put_all-2.ensures.call c.in_err-put_all-2.ensures.failed)));
  rest = g.met.O.Sink.rest_both _ _ _ c.in_ok-put_all.ensures.rest (g.met.O.Sink.rest_both _ _ _ c.in_ok-put_digits.ensures.rest c.in_err-put_all-2.ensures.rest);
}

pub returns : goal.returns
returns g c = record {
  writes = (
      then_all c.in_ok-put_all.field-0 c.put_number_line.result (codes "applied ") (decimal c.args.applied ++ (codes " of " ++ (decimal c.args.all ++ 10 ∷ []))) c.in_ok-put_all.ensures.call c.in_ok-put_all.ensures.received
      (writes_then c.in_ok-put_digits.field-0 c.put_number_line.result c.in_ok-put_digits.ensures.writes
      (then_all c.in_ok-put_all-2.field-0 c.put_number_line.result (codes " of ") (decimal c.args.all ++ 10 ∷ []) c.in_ok-put_all-2.ensures.call c.in_ok-put_all-2.ensures.received
      c.put_number_line.ensures.writes)));
  rest = g.met.O.Sink.rest_both _ _ _ c.in_ok-put_all.ensures.rest (g.met.O.Sink.rest_both _ _ _ c.in_ok-put_digits.ensures.rest (g.met.O.Sink.rest_both _ _ _ c.in_ok-put_all-2.ensures.rest c.put_number_line.ensures.rest));
}
