use Rattle.std.proofs.Common.{◌++◌, codes, ap, List, ℕ, ◌∙◌}
use Rattle.outside.proofs.Writing.{writes_is}
use Rattle.say_text.specs.Messages.{barred_line}
use Rattle.say_text.proofs.files.say_barred.Goals as goal

pub returns : goal.returns
returns g c = record {
  writes = writes_is c.put_around.result (barred_line c.args.is_link c.args.name.now) c.put_around.ensures.writes
      (ap (λ (l : List ℕ). codes "File " ++ (l ++ c.is_not.result.now)) c.as_bytes.ensures.value
      ∙ ap (λ (l : List ℕ). codes "File " ++ (c.args.name.now ++ l)) c.is_not.ensures);
  rest = c.put_around.ensures.rest;
}
