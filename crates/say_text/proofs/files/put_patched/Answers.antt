use Rattle.std.proofs.Common.{◌++◌, codes, ap, sym, List, ℕ, ◌∙◌}
use Rattle.outside.proofs.Writing.{writes_is}
use Rattle.say_text.specs.Messages.{behind_name}
use Rattle.say_text.specs.Origins.{plain_origin}
use Rattle.say_text.specs.declared.origin.Origin.{Origin}
use Rattle.say_text.proofs.files.put_patched.Goals as goal

pub returns-in-Renamed : goal.returns-in-Renamed
returns-in-Renamed g c = record {
  writes = let line = λ (l : List ℕ). c.args.doing.now ++ (c.args.name.now ++ l) in
      writes_is c.put_from.result (line (behind_name (plain_origin c.args.origin))) c.put_from.ensures.writes
      (ap (λ (l : List ℕ). line (codes " (renamed from " ++ (l ++ codes ")\n"))) c.as_bytes.ensures.value
      ∙ ap (λ (o : Origin). line (behind_name (plain_origin o))) (sym c.in-Renamed.is));
  rest = c.put_from.ensures.rest;
}

pub returns-in-AlreadyRenamed : goal.returns-in-AlreadyRenamed
returns-in-AlreadyRenamed g c = record {
  writes = let line = λ (l : List ℕ). c.args.doing.now ++ (c.args.name.now ++ l) in
      writes_is c.put_from-in-AlreadyRenamed.result (line (behind_name (plain_origin c.args.origin))) c.put_from-in-AlreadyRenamed.ensures.writes
      (ap (λ (l : List ℕ). line (codes " (already renamed from " ++ (l ++ codes ")\n"))) c.as_bytes-in-AlreadyRenamed.ensures.value
      ∙ ap (λ (o : Origin). line (behind_name (plain_origin o))) (sym c.in-AlreadyRenamed.is));
  rest = c.put_from-in-AlreadyRenamed.ensures.rest;
}

pub returns-in-Copied : goal.returns-in-Copied
returns-in-Copied g c = record {
  writes = let line = λ (l : List ℕ). c.args.doing.now ++ (c.args.name.now ++ l) in
      writes_is c.put_from-in-Copied.result (line (behind_name (plain_origin c.args.origin))) c.put_from-in-Copied.ensures.writes
      (ap (λ (l : List ℕ). line (codes " (copied from " ++ (l ++ codes ")\n"))) c.as_bytes-in-Copied.ensures.value
      ∙ ap (λ (o : Origin). line (behind_name (plain_origin o))) (sym c.in-Copied.is));
  rest = c.put_from-in-Copied.ensures.rest;
}

pub returns-in-Same : goal.returns-in-Same
returns-in-Same g c = record {
  writes = writes_is c.put_around.result (c.args.doing.now ++ (c.args.name.now ++ behind_name (plain_origin c.args.origin))) c.put_around.ensures.writes (ap (λ (o : Origin). c.args.doing.now ++ (c.args.name.now ++ behind_name (plain_origin o))) (sym c.in-Same.is));
  rest = c.put_around.ensures.rest;
}
