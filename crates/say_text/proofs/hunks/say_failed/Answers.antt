use Rattle.std.proofs.Common.{ℤ, ◌∙◌}
use Rattle.patch_options.specs.PlainJob.{plain_options}
use Rattle.say_text.specs.Messages.{failed_line}
use Rattle.say_text.proofs.Saying.{by_one, heard, passed, silent}
use Rattle.say_text.proofs.hunks.say_failed.Goals as goal

pub returns : goal.returns
returns g c = record {
  writes = let line = failed_line c.args.number c.args.at c.args.ends_otherwise in
      heard (plain_options c.args.options.now) c.put_all.result line c.if-options.false
      (by_one c.put_all.result c.as_slice.result.now line c.put_all.ensures.call c.put_all.ensures.received c.put_all.ensures.failed
      (c.as_slice.ensures.value ∙ passed (λ (z : ℤ). failed_line c.args.number z c.args.ends_otherwise) c.args.at c.failed_line-line.result.items c.ranges.at c.failed_line-line.ensures));
  rest = c.put_all.ensures.rest;
}

pub returns-then-options : goal.returns-then-options
returns-then-options g c = record {
  rest = g.met.O.Sink.rest_none c.args.out.now;
  writes = silent (g.O.Sink.view c.args.out.now) (plain_options c.args.options.now) _ (failed_line c.args.number c.args.at c.args.ends_otherwise) c.if-options.true;
}
