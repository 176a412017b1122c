use Rattle.std.proofs.Common.{◌++◌, codes, ap, List, ℕ}
use Rattle.outside.proofs.Writing.{writes_is}
use Rattle.say_text.specs.Messages.{read_only_line}
use Rattle.say_text.proofs.files.say_read_only.Goals as goal

pub returns : goal.returns
returns g c = record {
  writes = writes_is c.put_around.result (read_only_line c.args.name.now) c.put_around.ensures.writes
      (ap (λ (l : List ℕ). codes "File " ++ (l ++ codes " is read-only; refusing to patch\n")) c.as_bytes.ensures.value);
  rest = c.put_around.ensures.rest;
}
