use Rattle.std.proofs.Common.{Err, suc, sym, refl}
use Rattle.series_stack.specs.Saves.{entries_of}
use Rattle.series_stack.specs.Stack.{save_name, undoing_by}
use Rattle.series_stack.specs.Outcomes.{tally}
use Rattle.stack_state.specs.Steps.{Steps}
use Rattle.stack_state.specs.Undoing.{undone_by}
use Rattle.stack_state.proofs.Stepping.{one_more, steps_is, then_said, unsaid}
use Rattle.stack_state.proofs.Restoring.{undone-there}
use Rattle.stack_state.proofs.closing.undo_last.Goals as goal

pub returns-in-Ok : goal.returns-in-Ok
returns-in-Ok g c = record {
  steps = (
      let n = suc c.args.before in
      let save = c.args.save.now in
      steps_is c.said.result (undoing_by (save_name n) (entries_of save)) (λ f. tally c.args.before c.args.all) (λ f told. sym (undone-there save n f c.requires.save (c.requires.there f told))) (λ f told. refl)
      (one_more (λ k. Steps {R = Unit {0}} (g.T.Tree.view c.args.tree.now) (g.T.Tree.view c.undo.new.tree) (g.O.Sink.view c.args.out.now) (g.O.Sink.view c.say_tally.new.out) c.said.result (undone_by (save_name k) (entries_of save)) (λ f. tally c.args.before c.args.all)) c.args.before (then_said c.in-Ok.field-0 (tally c.args.before c.args.all) c.say_tally.result c.said.result c.said.ensures (c.in-Ok.ensures (g.O.Sink.view c.args.out.now)) c.say_tally.ensures.writes)));
  rest = c.say_tally.ensures.rest;
}

pub returns-in-Err : goal.returns-in-Err
returns-in-Err g c = record {
  steps = (
      let n = suc c.args.before in
      let save = c.args.save.now in
      steps_is {R = Unit {0}} (Err c.in-Err.fault) (undoing_by (save_name n) (entries_of save)) (λ f. tally c.args.before c.args.all) (λ f told. sym (undone-there save n f c.requires.save (c.requires.there f told))) (λ f told. refl)
      (one_more (λ k. Steps {R = Unit {0}} (g.T.Tree.view c.args.tree.now) (g.T.Tree.view c.undo.new.tree) (g.O.Sink.view c.args.out.now) (g.O.Sink.view c.args.out.now) (Err c.in-Err.fault) (undone_by (save_name k) (entries_of save)) (λ f. tally c.args.before c.args.all)) c.args.before (unsaid {S = Unit {0}} c.in-Err.fault (tally c.args.before c.args.all) (c.in-Err.ensures (g.O.Sink.view c.args.out.now)))));
  rest = g.met.O.Sink.rest_none c.args.out.now;
}

pub undo-requires-clause-save : goal.undo-requires-clause-save
undo-requires-clause-save g c = c.requires.save

pub undo-requires-clause-quiet : goal.undo-requires-clause-quiet
undo-requires-clause-quiet g c = c.requires.quiet
