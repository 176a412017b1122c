use Rattle.patch_options.specs.PlainJob.{plain_options}
use Rattle.say_text.specs.Messages.{reversed_line}
use Rattle.say_text.proofs.Saying.{by_one, heard, silent}
use Rattle.say_text.proofs.files.say_reversed.Goals as goal

pub returns : goal.returns
returns g c = record {
  writes = heard (plain_options c.args.options.now) c.put_all.result (reversed_line c.args.turned) c.if-options.false
      (by_one c.put_all.result c.reversed_line.result.now (reversed_line c.args.turned) c.put_all.ensures.call c.put_all.ensures.received c.put_all.ensures.failed c.reversed_line.ensures);
  rest = c.put_all.ensures.rest;
}

pub returns-then-options : goal.returns-then-options
returns-then-options g c = record {
  rest = g.met.O.Sink.rest_none c.args.out.now;
  writes = silent (g.O.Sink.view c.args.out.now) (plain_options c.args.options.now) _ (reversed_line c.args.turned) c.if-options.true;
}
