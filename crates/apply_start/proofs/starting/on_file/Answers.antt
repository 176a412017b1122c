use Rattle.std.proofs.Common.{sym, ◌∙◌, ap}
use Rattle.apply_task.specs.Contexts.{bytes_of}
use Rattle.apply_start.specs.Start.{on_fitting, on_file}
use Rattle.apply_task.specs.TaskView.{plain_task}
use Rattle.apply_start.proofs.StartSteps.{starts_failed, starts_after, starts_is}
use Rattle.apply_start.proofs.starting.on_file.Goals as goal

pub returns-in-Ok-None : goal.returns-in-Ok-None
returns-in-Ok-None g c = record {
  starts = (
      let t = plain_task c.args.task.now in
      let place = c.args.place in
      starts_is c.on_taking.result (λ f. on_file t f place c.args.side) (starts_after c.on_taking.result c.unfit.ensures.untouched c.on_taking.ensures.starts)
      (λ f told. ap (on_fitting t place (bytes_of t f place) c.args.side) (sym c.in-Ok-None.field-0-is ∙ c.in-Ok-None.ensures.unfit f told.0)));
  rest = c.on_taking.ensures.rest;
  within = c.on_taking.ensures.within;
}

pub returns-in-Ok-Some : goal.returns-in-Ok-Some
returns-in-Ok-Some g c = record {
  starts = (
      let t = plain_task c.args.task.now in
      let place = c.args.place in
      starts_is c.on_unfit.result (λ f. on_file t f place c.args.side) (starts_after c.on_unfit.result c.unfit.ensures.untouched c.on_unfit.ensures.starts)
      (λ f told. ap (on_fitting t place (bytes_of t f place) c.args.side) (sym c.in-Ok-Some.field-0-is ∙ c.in-Ok-Some.ensures.unfit f told.0)));
  rest = c.on_unfit.ensures.rest;
  within = c.on_unfit.ensures.within;
}

pub returns-in-Err : goal.returns-in-Err
returns-in-Err g c = record {
  starts = starts_failed _ _ _ c.unfit.ensures.untouched c.in-Err.ensures.cause;
  rest = g.met.O.Sink.rest_none _;
  within = tt;
}

pub unfit-requires-clause-within : goal.unfit-requires-clause-within
unfit-requires-clause-within g c = c.requires.within

pub unfit-requires-clause-task : goal.unfit-requires-clause-task
unfit-requires-clause-task g c = c.requires.task

pub on_taking-requires-clause-within : goal.on_taking-requires-clause-within
on_taking-requires-clause-within g c = c.requires.within

pub on_taking-requires-clause-task : goal.on_taking-requires-clause-task
on_taking-requires-clause-task g c = c.requires.task

pub on_taking-requires-clause-size : goal.on_taking-requires-clause-size
on_taking-requires-clause-size g c = c.requires.size

pub on_taking-requires-clause-there : goal.on_taking-requires-clause-there
on_taking-requires-clause-there g c = λ f now. c.requires.there f (sym c.unfit.ensures.untouched.told ∙ now)

pub on_unfit-requires-clause-within : goal.on_unfit-requires-clause-within
on_unfit-requires-clause-within g c = c.requires.within

pub on_unfit-requires-clause-task : goal.on_unfit-requires-clause-task
on_unfit-requires-clause-task g c = c.requires.task

pub on_unfit-requires-clause-size : goal.on_unfit-requires-clause-size
on_unfit-requires-clause-size g c = c.requires.size

pub on_unfit-requires-clause-there : goal.on_unfit-requires-clause-there
on_unfit-requires-clause-there g c = λ f now. c.requires.there f (sym c.unfit.ensures.untouched.told ∙ now)
