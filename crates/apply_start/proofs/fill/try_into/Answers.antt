use Rattle.std.proofs.Common.{List, ℕ, Some, sym, ap, subst, ◌∙◌}
use Rattle.std.specs.Prelude.{option_map, string_bytes}
use Rattle.patch_options.specs.PlainJob.{IsMacroName}
use Rattle.apply_task.specs.TaskView.{plain_task}
use Rattle.apply_start.proofs.Parting.{received_parted, received_plain}
use Rattle.apply_start.proofs.fill.try_into.Goals as goal

pub try_parted-requires-clause-define : goal.try_parted-requires-clause-define
try_parted-requires-clause-define g c =
    subst (λ (n : List ℕ). IsMacroName n) (sym c.deref.ensures) (c.requires.task.ready.define (string_bytes c.in-Some.define) (ap (option_map string_bytes) c.in-Some.is))

pub returns-in-Some : goal.returns-in-Some
returns-in-Some g c = record {
  received = (
      received_parted (plain_task c.args.task.now) c.args.side (g.P.LineStore.seen c.args.plan.now) (g.O.Sink.view c.args.out.now) (g.O.Sink.view c.try_parted.new.out) c.try_parted.result c.deref.result.now
      (ap (option_map string_bytes) c.in-Some.is ∙ ap (λ (n : List ℕ). Some n) (sym c.deref.ensures)) c.try_parted.ensures.received);
  keeps = c.try_parted.ensures.keeps;
  sink = c.try_parted.ensures.sink;
  rest = c.try_parted.ensures.rest;
  cause = c.try_parted.ensures.cause;
  session = c.try_parted.ensures.session;
  verdicts = c.try_parted.ensures.verdicts;
  tried = c.try_parted.ensures.tried;
  rows = c.try_parted.ensures.rows;
}

pub try_parted-requires-clause-task : goal.try_parted-requires-clause-task
try_parted-requires-clause-task g c = c.requires.task

pub try_parted-requires-clause-rows : goal.try_parted-requires-clause-rows
try_parted-requires-clause-rows g c = c.requires.rows

pub returns-in-None : goal.returns-in-None
returns-in-None g c = record {
  received = (
      received_plain (plain_task c.args.task.now) c.args.side (g.P.LineStore.seen c.args.plan.now) (g.O.Sink.view c.args.out.now) (g.O.Sink.view c.try_plain.new.out) c.try_plain.result
      (ap (option_map string_bytes) c.in-None.is) c.try_plain.ensures.received);
  keeps = c.try_plain.ensures.keeps;
  sink = c.try_plain.ensures.sink;
  rest = c.try_plain.ensures.rest;
  cause = c.try_plain.ensures.cause;
  session = c.try_plain.ensures.session;
  verdicts = c.try_plain.ensures.verdicts;
  tried = c.try_plain.ensures.tried;
  rows = c.try_plain.ensures.rows;
}

pub try_plain-requires-clause-task : goal.try_plain-requires-clause-task
try_plain-requires-clause-task g c = c.requires.task

pub try_plain-requires-clause-rows : goal.try_plain-requires-clause-rows
try_plain-requires-clause-rows g c = c.requires.rows
