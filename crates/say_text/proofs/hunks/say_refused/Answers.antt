use Rattle.std.proofs.Common.{ℕ, List, Some, Option, Bor, ap, sym, ◌∙◌}
use Rattle.std.specs.Option.{option_copied}
use Rattle.outside.proofs.Writing.{writes_is}
use Rattle.say_text.specs.Messages.{refused_line}
use Rattle.say_text.proofs.hunks.say_refused.Goals as goal

pub returns-in-Some : goal.returns-in-Some
returns-in-Some g c = record {
  writes = let line = λ (reject : Option (List ℕ)). refused_line c.args.hunks reject in
      writes_is c.put_refused_line.result (line (option_copied c.args.reject)) c.put_refused_line.ensures.writes
      (ap (λ (l : List ℕ). line (Some l)) c.as_bytes.ensures.value ∙ ap (λ (r : Option (Bor (List ℕ))). line (option_copied r)) (sym c.in-Some.is));
  rest = c.put_refused_line.ensures.rest;
}

pub returns-in-None : goal.returns-in-None
returns-in-None g c = record {
  writes = let line = λ (reject : Option (List ℕ)). refused_line c.args.hunks reject in
      writes_is c.say_ignored.result (line (option_copied c.args.reject)) c.say_ignored.ensures.writes
      (ap (λ (r : Option (Bor (List ℕ))). line (option_copied r)) (sym c.in-None.is));
  rest = c.say_ignored.ensures.rest;
}
