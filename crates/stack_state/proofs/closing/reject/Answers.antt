use Rattle.std.proofs.Common.{Err}
use Rattle.series_stack.specs.Saves.{entries_of}
use Rattle.series_stack.specs.Stack.{save_name}
use Rattle.stack_state.specs.Steps.{Steps}
use Rattle.stack_state.specs.Undoing.{undone_by}
use Rattle.series_stack.specs.Commands.Ending.{Rejected}
use Rattle.series_stack.specs.Outcomes.{ending_text}
use Rattle.stack_state.proofs.Stepping.{one_more, then_said, unsaid}
use Rattle.stack_state.proofs.closing.reject.Goals as goal

pub returns-in-Ok : goal.returns-in-Ok
returns-in-Ok g c = record {
  steps = (
      one_more (λ k. Steps {R = Unit {0}} (g.T.Tree.view c.args.tree.now) (g.T.Tree.view c.undo.new.tree) (g.O.Sink.view c.args.out.now) (g.O.Sink.view c.say_rejected.new.out) c.said.result (undone_by (save_name k) (entries_of c.args.save.now)) (λ f. ending_text Rejected c.args.name.now c.args.applied c.args.all)) c.args.applied (
      then_said c.in-Ok.field-0 (ending_text Rejected c.args.name.now c.args.applied c.args.all) c.say_rejected.result c.said.result c.said.ensures (c.in-Ok.ensures (g.O.Sink.view c.args.out.now)) c.say_rejected.ensures.writes));
  rest = c.say_rejected.ensures.rest;
}

pub returns-in-Err : goal.returns-in-Err
returns-in-Err g c = record {
  steps = (
      one_more (λ k. Steps {R = Unit {0}} (g.T.Tree.view c.args.tree.now) (g.T.Tree.view c.undo.new.tree) (g.O.Sink.view c.args.out.now) (g.O.Sink.view c.args.out.now) (Err c.in-Err.fault) (undone_by (save_name k) (entries_of c.args.save.now)) (λ f. ending_text Rejected c.args.name.now c.args.applied c.args.all)) c.args.applied (
      unsaid {S = Unit {0}} c.in-Err.fault (ending_text Rejected c.args.name.now c.args.applied c.args.all) (c.in-Err.ensures (g.O.Sink.view c.args.out.now))));
  rest = g.met.O.Sink.rest_none c.args.out.now;
}

pub undo-requires-clause-save : goal.undo-requires-clause-save
undo-requires-clause-save g c = c.requires.save

pub undo-requires-clause-quiet : goal.undo-requires-clause-quiet
undo-requires-clause-quiet g c = c.requires.quiet
