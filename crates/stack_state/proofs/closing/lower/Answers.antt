use Rattle.std.proofs.Common.{suc}
use Rattle.outside.specs.Quiet.{after}
use Rattle.series_stack.specs.Saves.{entries_of}
use Rattle.series_stack.specs.Stack.{save_name, undoing_by}
use Rattle.series_stack.specs.Outcomes.{lowering, tally}
use Rattle.stack_state.proofs.Stepping.{steps_stop, steps_then}
use Rattle.stack_state.proofs.Restoring.{there_put}
use Rattle.stack_state.proofs.closing.lower.Goals as goal

pub undo_last-requires-clause-quiet : goal.undo_last-requires-clause-quiet
undo_last-requires-clause-quiet g c = (c.in-Ok.ensures (g.O.Sink.view c.args.out.now)).quiet

pub undo_last-requires-clause-there : goal.undo_last-requires-clause-there
undo_last-requires-clause-there g c = there_put c.in-Ok.field-0 c.args.before (suc c.args.before) c.requires.there (c.in-Ok.ensures (g.O.Sink.view c.args.out.now))

pub returns-in-Ok : goal.returns-in-Ok
returns-in-Ok g c = record {
  steps = steps_then c.in-Ok.field-0 c.undo_last.result (c.in-Ok.ensures (g.O.Sink.view c.args.out.now)) c.undo_last.ensures.steps;
  rest = c.undo_last.ensures.rest;
}

pub returns-in-Err : goal.returns-in-Err
returns-in-Err g c = record {
  steps = steps_stop c.in-Err.fault (λ f. undoing_by (save_name (suc c.args.before)) (entries_of c.args.save.now) (after (lowering c.args.before) f)) (λ f. tally c.args.before c.args.all) (c.in-Err.ensures (g.O.Sink.view c.args.out.now));
  rest = g.met.O.Sink.rest_none c.args.out.now;
}

pub undo_last-requires-clause-save : goal.undo_last-requires-clause-save
undo_last-requires-clause-save g c = c.requires.save

pub undo_last-requires-clause-few : goal.undo_last-requires-clause-few
undo_last-requires-clause-few g c = c.requires.few

pub put_count-requires : goal.put_count-requires
put_count-requires g c = record { quiet = c.requires.quiet }
