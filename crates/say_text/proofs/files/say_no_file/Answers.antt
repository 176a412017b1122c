use Rattle.std.proofs.Common.{◌∙◌}
use Rattle.say_text.specs.Messages.{no_file_lines}
use Rattle.say_text.proofs.Saying.{by_one}
use Rattle.say_text.proofs.files.say_no_file.Goals as goal

pub returns : goal.returns
returns g c = record {
  writes = by_one c.put_all.result c.as_slice.result.now (no_file_lines c.args.line) c.put_all.ensures.call c.put_all.ensures.received c.put_all.ensures.failed (c.as_slice.ensures.value ∙ c.no_file_lines-lines.ensures);
  rest = c.put_all.ensures.rest;
}
