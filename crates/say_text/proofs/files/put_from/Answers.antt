use Rattle.std.proofs.Common.{◌++◌, codes, append_assoc}
use Rattle.outside.proofs.Writing.{writes_stop, writes_then, writes_is}
use Rattle.say_text.proofs.files.put_from.Goals as goal

pub returns-in_err-put_both : goal.returns-in_err-put_both
returns-in_err-put_both g c = record {
  writes = let rest = c.args.how.now ++ (c.args.source.now ++ codes ")\n") in
      writes_is c.from_residual.result (c.args.doing.now ++ (c.args.name.now ++ rest))
      (writes_stop c.in_err-put_both.field-0.0 c.from_residual.result rest c.from_residual.ensures.0 c.in_err-put_both.ensures.writes)
      (append_assoc c.args.doing.now c.args.name.now rest);
  rest = c.put_both.ensures.rest;
}

pub returns : goal.returns
returns g c = record {
  writes = let rest = c.args.how.now ++ (c.args.source.now ++ codes ")\n") in
      writes_is c.put_around.result (c.args.doing.now ++ (c.args.name.now ++ rest))
      (writes_then c.in_ok-put_both.field-0 c.put_around.result c.in_ok-put_both.ensures.writes c.put_around.ensures.writes)
      (append_assoc c.args.doing.now c.args.name.now rest);
  rest = g.met.O.Sink.rest_both _ _ _ c.put_both.ensures.rest c.put_around.ensures.rest;
}
