use Rattle.std.proofs.Common.{[], ◌∷◌, ◌++◌, codes}
use Rattle.num_text.specs.Numbers.{decimal}
use Rattle.outside.proofs.Writing.{stop_all, then_all}
use Rattle.stack_state.proofs.saying.say_restored.Goals as goal

pub returns-in_err-put_all : goal.returns-in_err-put_all
returns-in_err-put_all g c = record {
  writes = stop_all c.in_err-put_all.field-0.0 c.from_residual.result (codes "Restored to ") (decimal c.args.applied ++ 10 ∷ []) c.from_residual.ensures.0 c.in_err-put_all.ensures.call c.in_err-put_all.ensures.failed;
  rest = c.in_err-put_all.ensures.rest;
}

pub returns : goal.returns
returns g c = record {
  writes = then_all c.in_ok-put_all.field-0 c.put_number_line.result (codes "Restored to ") (decimal c.args.applied ++ 10 ∷ []) c.in_ok-put_all.ensures.call c.in_ok-put_all.ensures.received c.put_number_line.ensures.writes;
  rest = g.met.O.Sink.rest_both _ _ _ c.in_ok-put_all.ensures.rest c.put_number_line.ensures.rest;
}
