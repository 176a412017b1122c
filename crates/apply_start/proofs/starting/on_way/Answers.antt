use Rattle.std.proofs.Common.{length, sym, ◌∙◌, subst}
use Rattle.std.proofs.lemmas.Option.{none-some}
use Rattle.std.proofs.lemmas.Result.{IfOk-weaker}
use Rattle.apply_task.specs.TaskView.{plain_task}
use Rattle.apply_start.specs.Start.{on_meant}
use Rattle.apply_start.specs.Starting.{IsWithin}
use Rattle.apply_start.proofs.StartSteps.{starts_failed, starts_after, starts_barred}
use Rattle.apply_start.proofs.starting.on_way.Goals as goal

pub returns-in-Ok-None : goal.returns-in-Ok-None
returns-in-Ok-None g c = record {
  starts = starts_after c.on_free.result c.obstacle.ensures.untouched c.on_free.ensures.starts;
  rest = c.on_free.ensures.rest;
  within = c.on_free.ensures.within;
}

pub returns-in-Ok-Some : goal.returns-in-Ok-Some
returns-in-Ok-Some g c = record {
  starts = starts_barred _ c.on_barred.result (λ f. on_meant (plain_task c.args.task.now) f c.args.place) c.obstacle.ensures.untouched
      (λ f told. none-some _ (sym (c.in-Ok-Some.ensures.free f told) ∙ c.in-Ok-Some.field-0-is)) c.on_barred.ensures.writes c.on_barred.ensures.fault;
  rest = c.on_barred.ensures.rest;
  within = IfOk-weaker c.on_barred.result _ _ (λ d is. subst (IsWithin (length c.args.task.now.patch.now.targets.items)) (sym is) c.requires.within) c.on_barred.ensures.refused;
}

pub returns-in-Err : goal.returns-in-Err
returns-in-Err g c = record {
  starts = starts_failed _ _ _ c.obstacle.ensures.untouched c.in-Err.ensures.cause;
  rest = g.met.O.Sink.rest_none _;
  within = tt;
}

pub obstacle-requires-clause-within : goal.obstacle-requires-clause-within
obstacle-requires-clause-within g c = c.requires.within

pub obstacle-requires-clause-task : goal.obstacle-requires-clause-task
obstacle-requires-clause-task g c = c.requires.task

pub obstacle-requires-clause-there : goal.obstacle-requires-clause-there
obstacle-requires-clause-there g c = c.requires.there

pub on_free-requires-clause-within : goal.on_free-requires-clause-within
on_free-requires-clause-within g c = c.requires.within

pub on_free-requires-clause-task : goal.on_free-requires-clause-task
on_free-requires-clause-task g c = c.requires.task

pub on_free-requires-clause-size : goal.on_free-requires-clause-size
on_free-requires-clause-size g c = c.requires.size

pub on_free-requires-clause-there : goal.on_free-requires-clause-there
on_free-requires-clause-there g c = λ f now. c.requires.there f (sym c.obstacle.ensures.untouched.told ∙ now)

pub on_free-requires-clause-link : goal.on_free-requires-clause-link
on_free-requires-clause-link g c = λ f now. c.requires.link f (sym c.obstacle.ensures.untouched.told ∙ now)
