use Rattle.say_text.proofs.files.put_prereq.Goals as goal

pub returns-then-is_forced : goal.returns-then-is_forced
returns-then-is_forced g c = record {
  writes = rw c.if-is_forced.true c.put_around.ensures.writes;
  rest = c.put_around.ensures.rest;
}

pub returns-else-is_forced : goal.returns-else-is_forced
returns-else-is_forced g c = record {
  writes = rw c.if-is_forced.false c.put_around-else-is_forced.ensures.writes;
  rest = c.put_around-else-is_forced.ensures.rest;
}
