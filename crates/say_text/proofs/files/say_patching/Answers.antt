use Rattle.std.proofs.Common.{ap, List, ℕ}
use Rattle.patch_options.specs.PlainJob.{plain_options}
use Rattle.outside.proofs.Writing.{writes_is}
use Rattle.say_text.specs.Messages.{patching_line}
use Rattle.say_text.specs.Origins.{plain_origin}
use Rattle.say_text.proofs.Saying.{heard, silent}
use Rattle.say_text.proofs.files.say_patching.Goals as goal

pub returns : goal.returns
returns g c = record {
  writes = let o = plain_options c.args.options.now in
      let origin = plain_origin c.args.origin in
      heard o c.put_patching.result (patching_line o.dry_run c.args.is_link o.output c.args.name.now origin) c.if-options.false
      (writes_is c.put_patching.result (patching_line o.dry_run c.args.is_link o.output c.args.name.now origin) c.put_patching.ensures.writes
      (ap (λ (l : List ℕ). patching_line o.dry_run c.args.is_link o.output l origin) c.as_bytes.ensures.value));
  rest = c.put_patching.ensures.rest;
}

pub returns-then-options : goal.returns-then-options
returns-then-options g c = record {
  rest = g.met.O.Sink.rest_none c.args.out.now;
  writes = silent (g.O.Sink.view c.args.out.now) (plain_options c.args.options.now) _ (patching_line c.args.options.now.dry_run c.args.is_link c.args.options.now.output c.args.name.now (plain_origin c.args.origin)) c.if-options.true;
}
