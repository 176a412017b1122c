use Rattle.std.proofs.Common.{◌∙◌}
use Rattle.say_text.specs.Messages.{skipping_line}
use Rattle.say_text.proofs.Saying.{by_one}
use Rattle.say_text.proofs.skipping.say_skipped.Goals as goal

pub returns : goal.returns
returns g c = record {
  writes = by_one c.put_all.result c.as_slice.result.now (skipping_line c.args.line) c.put_all.ensures.call c.put_all.ensures.received c.put_all.ensures.failed (c.as_slice.ensures.value ∙ c.skipping_line-line.ensures);
  rest = c.put_all.ensures.rest;
}
