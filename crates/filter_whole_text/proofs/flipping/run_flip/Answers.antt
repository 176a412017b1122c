use Rattle.filter_whole_text.proofs.TurnedText.{flips-unread, flips-turned}
use Rattle.filter_whole_text.proofs.flipping.run_flip.Goals as goal

pub returns-in-Ok : goal.returns-in-Ok
returns-in-Ok g c = record {
  sifts = flips-turned c.args.input.now _ _ _ _ c.read_whole.ensures.untouched c.read_whole.ensures.source c.read_whole.ensures.taken
      c.in-Ok.set c.in-Ok.ensures.set g.O.Sink.view g.O.Sink.same_rest c.args.out.now c.put_turned-answer.new.out c.in-Ok.ensures.end c.put_turned-answer.result c.put_turned-answer.ensures.turned;
  unread = c.read_whole.ensures.unread;
  rest = c.put_turned-answer.ensures.rest;
}

pub returns-in-Err : goal.returns-in-Err
returns-in-Err g c = record {
  sifts = flips-unread c.args.input.now _ _ _ _ c.read_whole.ensures.untouched c.read_whole.ensures.source c.read_whole.ensures.taken c.in-Err.fault c.in-Err.ensures.refused _;
  unread = c.read_whole.ensures.unread;
  rest = g.met.O.Sink.rest_none c.args.out.now;
}
