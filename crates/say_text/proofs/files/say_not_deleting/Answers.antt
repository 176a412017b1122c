use Rattle.std.proofs.Common.{◌++◌, codes, ap, List, ℕ}
use Rattle.outside.proofs.Writing.{writes_is}
use Rattle.say_text.specs.Messages.{not_deleting_line}
use Rattle.say_text.proofs.files.say_not_deleting.Goals as goal

pub returns : goal.returns
returns g c = record {
  writes = writes_is c.put_around.result (not_deleting_line c.args.name.now) c.put_around.ensures.writes
      (ap (λ (l : List ℕ). codes "Not deleting file " ++ (l ++ codes " as content differs from patch\n")) c.as_bytes.ensures.value);
  rest = c.put_around.ensures.rest;
}
