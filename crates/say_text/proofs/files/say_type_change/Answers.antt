use Rattle.std.proofs.Common.{◌++◌, codes, ap, List, ℕ, ◌∙◌}
use Rattle.outside.proofs.Writing.{writes_is}
use Rattle.say_text.specs.Messages.{type_line}
use Rattle.say_text.proofs.files.say_type_change.Goals as goal

pub returns : goal.returns
returns g c = record {
  writes = writes_is c.put_around.result (type_line c.args.to_link c.args.name.now) c.put_around.ensures.writes
      (ap (λ (l : List ℕ). codes "File " ++ (l ++ c.type_change.result.now)) c.as_bytes.ensures.value
      ∙ ap (λ (l : List ℕ). codes "File " ++ (c.args.name.now ++ l)) c.type_change.ensures);
  rest = c.put_around.ensures.rest;
}
