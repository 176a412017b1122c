use Rattle.std.proofs.Common.{[], ◌∷◌, ◌++◌}
use Rattle.outside.proofs.Writing.{stop_all, then_all}
use Rattle.stack_state.proofs.saying.say.Goals as goal

pub returns-in_err-put_all : goal.returns-in_err-put_all
returns-in_err-put_all g c = record {
  writes = stop_all c.in_err-put_all.field-0.0 c.from_residual.result c.args.words.now (c.args.text.now ++ (10 ∷ [])) c.from_residual.ensures.0 c.in_err-put_all.ensures.call c.in_err-put_all.ensures.failed;
  rest = c.in_err-put_all.ensures.rest;
}

pub returns-in_err-put_all-2 : goal.returns-in_err-put_all-2
returns-in_err-put_all-2 g c = record {
  writes = (
      then_all c.in_ok-put_all.field-0 c.from_residual-in_err-put_all-2.result c.args.words.now (c.args.text.now ++ (10 ∷ [])) c.in_ok-put_all.ensures.call c.in_ok-put_all.ensures.received
      (stop_all c.in_err-put_all-2.field-0.0 c.from_residual-in_err-put_all-2.result c.args.text.now (10 ∷ []) c.from_residual-in_err-put_all-2.ensures.0 c.in_err-put_all-2.ensures.call c.in_err-put_all-2.ensures.failed));
  rest = g.met.O.Sink.rest_both _ _ _ c.in_ok-put_all.ensures.rest c.in_err-put_all-2.ensures.rest;
}

pub returns : goal.returns
returns g c = record {
  writes = (
      then_all c.in_ok-put_all.field-0 c.put_end.result c.args.words.now (c.args.text.now ++ (10 ∷ [])) c.in_ok-put_all.ensures.call c.in_ok-put_all.ensures.received
      (then_all c.in_ok-put_all-2.field-0 c.put_end.result c.args.text.now (10 ∷ []) c.in_ok-put_all-2.ensures.call c.in_ok-put_all-2.ensures.received
      c.put_end.ensures.writes));
  rest = g.met.O.Sink.rest_both _ _ _ c.in_ok-put_all.ensures.rest (g.met.O.Sink.rest_both _ _ _ c.in_ok-put_all-2.ensures.rest c.put_end.ensures.rest);
}
