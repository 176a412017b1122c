use Rattle.std.proofs.Common.{◌++◌, codes, ap, sym, List, ℕ, Option, ◌∙◌}
use Rattle.outside.proofs.Writing.{writes_is}
use Rattle.say_text.specs.Messages.{doing, patching_line, behind_name}
use Rattle.say_text.specs.Origins.{plain_origin}
use Rattle.say_text.proofs.files.put_patching.Goals as goal

pub returns-in-Some : goal.returns-in-Some
returns-in-Some g c = record {
  writes = let o = c.args.options.now in
      let origin = plain_origin c.args.origin in
      let rest = codes " (read from " ++ (c.args.name.now ++ codes ")\n") in
      writes_is c.put_from.result (patching_line o.dry_run c.args.is_link o.output c.args.name.now origin) c.put_from.ensures.writes
      (ap (λ (l : List ℕ). l ++ (c.as_bytes.result.now ++ rest)) c.doing-doing.ensures
      ∙ ap (λ (l : List ℕ). doing o.dry_run c.args.is_link ++ (l ++ rest)) (c.as_bytes.ensures.value ∙ c.text.ensures.text)
      ∙ ap (λ (output : Option (List ℕ)). patching_line o.dry_run c.args.is_link output c.args.name.now origin) (sym c.in-Some.is));
  rest = c.put_from.ensures.rest;
}

pub returns-in-None : goal.returns-in-None
returns-in-None g c = record {
  writes = writes_is c.put_patched.result (patching_line c.args.options.now.dry_run c.args.is_link c.args.options.now.output c.args.name.now (plain_origin c.args.origin)) c.put_patched.ensures.writes
      (ap (λ (l : List ℕ). l ++ (c.args.name.now ++ behind_name (plain_origin c.args.origin))) c.doing-doing.ensures
      ∙ ap (λ (output : Option (List ℕ)). patching_line c.args.options.now.dry_run c.args.is_link output c.args.name.now (plain_origin c.args.origin)) (sym c.in-None.is));
  rest = c.put_patched.ensures.rest;
}
