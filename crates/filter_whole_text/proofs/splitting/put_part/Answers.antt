use Rattle.filter_whole_text.proofs.OnePart.{part-starved, part-failed, part-said, part-unsaid}
use Rattle.filter_whole_text.proofs.splitting.put_part.Goals as goal

pub returns-in_err-temp : goal.returns-in_err-temp
returns-in_err-temp g c = record {
  puts = part-starved c.args.name.now c.args.bytes.now _ _ c.requires.quiet c.from_residual.result c.from_residual.ensures.1;
  rest = g.met.O.Sink.rest_none c.args.out.now;
}

pub put_whole-requires-clause-temporary : goal.put_whole-requires-clause-temporary
put_whole-requires-clause-temporary g c = c.in_ok-temp.ensures.temp

pub put_whole-requires-clause-lasting : goal.put_whole-requires-clause-lasting
put_whole-requires-clause-lasting g c = c.requires.lasting

pub put_whole-requires-clause-quiet : goal.put_whole-requires-clause-quiet
put_whole-requires-clause-quiet g c = c.requires.quiet

pub returns-in_default : goal.returns-in_default
returns-in_default g c = record {
  puts = part-failed c.args.name.now c.args.bytes.now _ c.in_default.ensures.makes;
  rest = g.met.O.Sink.rest_none c.args.out.now;
}

pub returns-in_default-put_line : goal.returns-in_default-put_line
returns-in_default-put_line g c = record {
  puts = part-unsaid c.args.name.now c.args.bytes.now c.in-Ok.ensures.makes c.in_ok-temp.temp c.in_ok-temp.ensures.text c.in-Ok.ensures.ok c.in_default-put_line.ensures;
  rest = c.put_line.ensures.rest;
}

pub returns : goal.returns
returns g c = record {
  puts = part-said c.args.name.now c.args.bytes.now c.in-Ok.ensures.makes c.in_ok-temp.temp c.in_ok-temp.ensures.text c.in-Ok.ensures.ok tt c.in-Ok-put_line.ensures;
  rest = c.put_line.ensures.rest;
}
