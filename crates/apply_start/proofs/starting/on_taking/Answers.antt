use Rattle.std.proofs.Common.{Ok, Err}
use Rattle.apply_task.specs.Contexts.{bytes_of}
use Rattle.apply_start.specs.Start.{on_prereq}
use Rattle.apply_task.specs.TaskView.{plain_task}
use Rattle.apply_start.proofs.StartTaken.{starts_taken, starts_untaken, takes_at, prereq_about}
use Rattle.outside.proofs.Exits.{if_ok_none}
use Rattle.apply_start.proofs.starting.on_taking.Goals as goal

pub returns-in_err-take : goal.returns-in_err-take
returns-in_err-take g c = record {
  starts = (
      let t = plain_task c.args.task.now in
      starts_untaken (bytes_of t) c.args.place (λ bytes. on_prereq t c.args.place bytes c.args.was_turned c.args.side) _ c.in_err-take.field-0.0 c.from_residual.result c.requires.size c.from_residual.ensures.1 (takes_at {r = Err c.in_err-take.field-0.0} c.chosen.ensures.target c.in_err-take.ensures));
  rest = g.met.O.Sink.rest_none _;
  within = if_ok_none _ _ c.from_residual.result c.from_residual.ensures.1;
}

pub returns : goal.returns
returns g c = record {
  starts = (
      let t = plain_task c.args.task.now in
      starts_taken (bytes_of t) c.args.place (λ bytes. on_prereq t c.args.place bytes c.args.was_turned c.args.side) c.check_prereq_and_reversal.result c.requires.size (takes_at {r = Ok tt} c.chosen.ensures.target c.in_ok-take.ensures) c.check_prereq_and_reversal.ensures.weighs c.requires.there
      (λ f. prereq_about t c.args.place (bytes_of t f c.args.place) c.args.was_turned c.args.side));
  rest = c.check_prereq_and_reversal.ensures.rest;
  within = c.check_prereq_and_reversal.ensures.within;
}

pub check_prereq_and_reversal-requires-clause-within : goal.check_prereq_and_reversal-requires-clause-within
check_prereq_and_reversal-requires-clause-within g c = c.requires.within

pub check_prereq_and_reversal-requires-clause-task : goal.check_prereq_and_reversal-requires-clause-task
check_prereq_and_reversal-requires-clause-task g c = c.requires.task

pub chosen-requires-clause-within : goal.chosen-requires-clause-within
chosen-requires-clause-within g c = c.requires.within

pub chosen-requires-clause-task : goal.chosen-requires-clause-task
chosen-requires-clause-task g c = c.requires.task
