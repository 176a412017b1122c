use Rattle.say_text.proofs.Saying.{by_one}
use Rattle.std.proofs.Common.{refl}
use Rattle.outside.proofs.Writing.{stop_all, then_all}
use Rattle.say_text.proofs.pieces.put_both.Goals as goal

pub returns-in_err-put_all : goal.returns-in_err-put_all
returns-in_err-put_all g c = record {
  writes = stop_all c.in_err-put_all.field-0.0 c.from_residual.result c.args.first.now c.args.second.now c.from_residual.ensures.0 c.in_err-put_all.ensures.call c.in_err-put_all.ensures.failed;
  rest = c.put_all.ensures.rest;
}

pub returns : goal.returns
returns g c = record {
  writes = then_all c.in_ok-put_all.field-0 c.put_all-2.result c.args.first.now c.args.second.now c.in_ok-put_all.ensures.call c.in_ok-put_all.ensures.received
      (by_one c.put_all-2.result c.args.second.now c.args.second.now c.put_all-2.ensures.call c.put_all-2.ensures.received c.put_all-2.ensures.failed refl);
  rest = g.met.O.Sink.rest_both _ _ _ c.put_all.ensures.rest c.put_all-2.ensures.rest;
}
