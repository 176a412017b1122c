use Rattle.std.proofs.Common.{sym, ◌∙◌}
use Rattle.apply_start.proofs.StartSteps.{starts_failed, starts_after}
use Rattle.apply_start.proofs.starting.on_meant.Goals as goal

pub returns-in-Ok : goal.returns-in-Ok
returns-in-Ok g c = record {
  starts = starts_after c.on_way.result c.is_about_link.ensures.untouched c.on_way.ensures.starts;
  rest = c.on_way.ensures.rest;
  within = c.on_way.ensures.within;
}

pub returns-in-Err : goal.returns-in-Err
returns-in-Err g c = record {
  starts = starts_failed _ _ _ c.is_about_link.ensures.untouched c.in-Err.ensures.cause;
  rest = g.met.O.Sink.rest_none _;
  within = tt;
}

pub is_about_link-requires-clause-within : goal.is_about_link-requires-clause-within
is_about_link-requires-clause-within g c = c.requires.within

pub is_about_link-requires-clause-task : goal.is_about_link-requires-clause-task
is_about_link-requires-clause-task g c = c.requires.task

pub on_way-requires-clause-within : goal.on_way-requires-clause-within
on_way-requires-clause-within g c = c.requires.within

pub on_way-requires-clause-task : goal.on_way-requires-clause-task
on_way-requires-clause-task g c = c.requires.task

pub on_way-requires-clause-size : goal.on_way-requires-clause-size
on_way-requires-clause-size g c = c.requires.size

pub on_way-requires-clause-there : goal.on_way-requires-clause-there
on_way-requires-clause-there g c = λ f now. c.requires.there f (sym c.is_about_link.ensures.untouched.told ∙ now)

pub on_way-requires-clause-link : goal.on_way-requires-clause-link
on_way-requires-clause-link g c = λ f now. c.in-Ok.ensures.link f (sym c.is_about_link.ensures.untouched.told ∙ now)
