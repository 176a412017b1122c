use Rattle.std.proofs.Common.{◌++◌, codes, ap, List, ℕ}
use Rattle.outside.proofs.Writing.{writes_is}
use Rattle.say_text.specs.Messages.{submodule_line}
use Rattle.say_text.proofs.files.say_submodule.Goals as goal

pub returns : goal.returns
returns g c = record {
  writes = writes_is c.put_around.result (submodule_line c.args.name.now) c.put_around.ensures.writes
      (ap (λ (l : List ℕ). codes "File " ++ (l ++ codes ": git submodules are not supported.\n")) c.as_bytes.ensures.value);
  rest = c.put_around.ensures.rest;
}
