use Rattle.std.proofs.Common.{◌++◌, ap, List, ℕ, ◌∙◌}
use Rattle.patch_options.specs.PlainJob.{plain_options}
use Rattle.outside.proofs.Writing.{writes_is}
use Rattle.say_text.specs.Messages.{would_do, unfit_line}
use Rattle.say_text.proofs.Saying.{heard, silent}
use Rattle.say_text.proofs.files.say_unfit.Goals as goal

pub returns : goal.returns
returns g c =
    let line = unfit_line c.args.standing c.args.name.now c.args.turned in
    record {
      writes = heard (plain_options c.args.options.now) c.put_around.result line c.if-options.false
          (writes_is c.put_around.result line c.put_around.ensures.writes
          (ap (λ (l : List ℕ). l ++ (c.as_bytes.result.now ++ c.what_follows.result.now)) c.would_do.ensures
          ∙ ap (λ (l : List ℕ). would_do c.args.standing ++ (l ++ c.what_follows.result.now)) c.as_bytes.ensures.value
          ∙ ap (λ (l : List ℕ). would_do c.args.standing ++ (c.args.name.now ++ l)) c.what_follows.ensures));
      rest = c.put_around.ensures.rest;
    }

pub returns-then-options : goal.returns-then-options
returns-then-options g c = record {
  rest = g.met.O.Sink.rest_none c.args.out.now;
  writes = silent (g.O.Sink.view c.args.out.now) (plain_options c.args.options.now) _ (unfit_line c.args.standing c.args.name.now c.args.turned) c.if-options.true;
}
