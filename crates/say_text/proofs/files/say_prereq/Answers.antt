use Rattle.patch_options.specs.PlainJob.{plain_options}
use Rattle.say_text.specs.Messages.{prereq_line}
use Rattle.say_text.proofs.Saying.{heard, silent}
use Rattle.say_text.proofs.files.say_prereq.Goals as goal

pub returns : goal.returns
returns g c = record {
  writes = heard (plain_options c.args.options.now) c.put_prereq.result (prereq_line c.args.options.now.force c.args.word.now) c.if-options.false c.put_prereq.ensures.writes;
  rest = c.put_prereq.ensures.rest;
}

pub returns-then-options : goal.returns-then-options
returns-then-options g c = record {
  rest = g.met.O.Sink.rest_none c.args.out.now;
  writes = silent (g.O.Sink.view c.args.out.now) (plain_options c.args.options.now) _ (prereq_line c.args.options.now.force c.args.word.now) c.if-options.true;
}
