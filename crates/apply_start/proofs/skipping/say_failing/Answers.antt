use Rattle.std.proofs.Common.{sym, ap, ◌∙◌}
use Rattle.outside.proofs.Writing.{writes_is}
use Rattle.patch_options.specs.PlainJob.{plain_options}
use Rattle.say_text.specs.Messages.{image_line}
use Rattle.apply_start.specs.Skipping.{left_of, failing_line}
use Rattle.apply_start.proofs.skipping.say_failing.Goals as goal

pub returns-in-Some : goal.returns-in-Some
returns-in-Some g c = record {
  writes = (
      let o = plain_options c.args.options.now in
      writes_is _ _ c.say_image.ensures.writes (ap image_line (c.left_of.ensures ∙ ap (left_of o.strip) (c.as_bytes.ensures.value ∙ c.text.ensures.text)) ∙ ap (failing_line o c.args.line) (sym c.in-Some.is)));
  rest = c.say_image.ensures.rest;
}

pub returns-in-None : goal.returns-in-None
returns-in-None g c = record {
  writes = writes_is _ _ c.say_skipped.ensures.writes (ap (failing_line (plain_options c.args.options.now) c.args.line) (sym c.in-None.is));
  rest = c.say_skipped.ensures.rest;
}
