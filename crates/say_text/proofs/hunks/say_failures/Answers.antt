use Rattle.std.proofs.Common.{ℕ, List, Some, Option, Bor, ap, sym, ◌∙◌}
use Rattle.std.specs.Option.{option_copied}
use Rattle.outside.proofs.Writing.{writes_is}
use Rattle.say_text.specs.Messages.{failures_line}
use Rattle.say_text.proofs.Saying.{by_one}
use Rattle.say_text.proofs.hunks.say_failures.Goals as goal

pub returns-in-Some : goal.returns-in-Some
returns-in-Some g c = record {
  writes = let line = λ (reject : Option (List ℕ)). failures_line c.args.failed c.args.hunks reject in
      writes_is c.put_rejects_line.result (line (option_copied c.args.reject)) c.put_rejects_line.ensures.writes
      (ap (λ (l : List ℕ). line (Some l)) c.as_bytes.ensures.value ∙ ap (λ (r : Option (Bor (List ℕ))). line (option_copied r)) (sym c.in-Some.is));
  rest = c.put_rejects_line.ensures.rest;
}

pub returns-in-None : goal.returns-in-None
returns-in-None g c = record {
  writes = by_one c.put_all.result c.as_slice.result.now (failures_line c.args.failed c.args.hunks (option_copied c.args.reject)) c.put_all.ensures.call c.put_all.ensures.received c.put_all.ensures.failed (c.as_slice.ensures.value ∙ c.share_line-line.ensures ∙ ap (λ (r : Option (Bor (List ℕ))). failures_line c.args.failed c.args.hunks (option_copied r)) (sym c.in-None.is));
  rest = c.put_all.ensures.rest;
}
