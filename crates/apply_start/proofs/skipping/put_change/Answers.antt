use Rattle.apply_start.proofs.skipping.put_change.Goals as goal

pub returns : goal.returns
returns g c = record {
  call = c.say_change.ensures.writes.call;
  rest = c.say_change.ensures.rest;
  received = c.say_change.ensures.writes.received;
  failed = c.say_change.ensures.writes.failed;
}
