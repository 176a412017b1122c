use Rattle.std.proofs.Common.{Err, suc, codes}
use Rattle.num_text.specs.Numbers.{decimal}
use Rattle.series_stack.specs.Saves.{entries_of}
use Rattle.series_stack.specs.Stack.{save_name, undoing}
use Rattle.series_stack.specs.Outcomes.{recovered_text, said}
use Rattle.stack_state.specs.Steps.{Steps}
use Rattle.stack_state.specs.Undoing.{undone_by}
use Rattle.stack_state.proofs.Stepping.{one_more, steps_is, then_said, unsaid}
use Rattle.stack_state.proofs.Restoring.{held-undone, recovered-is}
use Rattle.stack_state.proofs.closing.recover_by.Goals as goal

pub returns-in-Ok : goal.returns-in-Ok
returns-in-Ok g c = record {
  steps = (
      let n = c.args.applied in
      let text = said (codes "Restored to ") (decimal n) in
      steps_is c.said.result (undoing (suc n)) (λ f. recovered_text n (undoing (suc n) f))
      (λ f told. held-undone (suc n) c.args.save.now f c.requires.save (c.requires.held f told))
      (λ f told. recovered-is n (suc n) c.args.save.now f c.requires.save (c.requires.held f told))
      (one_more (λ k. Steps {R = Unit {0}} (g.T.Tree.view c.args.tree.now) (g.T.Tree.view c.undo.new.tree) (g.O.Sink.view c.args.out.now) (g.O.Sink.view c.say_restored.new.out) c.said.result (undone_by (save_name k) (entries_of c.args.save.now)) (λ f. text)) n (then_said c.in-Ok.field-0 text c.say_restored.result c.said.result c.said.ensures (c.in-Ok.ensures (g.O.Sink.view c.args.out.now)) c.say_restored.ensures.writes)));
  rest = c.say_restored.ensures.rest;
}

pub returns-in-Err : goal.returns-in-Err
returns-in-Err g c = record {
  steps = (
      let n = c.args.applied in
      let text = said (codes "Restored to ") (decimal n) in
      steps_is {R = Unit {0}} (Err c.in-Err.fault) (undoing (suc n)) (λ f. recovered_text n (undoing (suc n) f))
      (λ f told. held-undone (suc n) c.args.save.now f c.requires.save (c.requires.held f told))
      (λ f told. recovered-is n (suc n) c.args.save.now f c.requires.save (c.requires.held f told))
      (one_more (λ k. Steps {R = Unit {0}} (g.T.Tree.view c.args.tree.now) (g.T.Tree.view c.undo.new.tree) (g.O.Sink.view c.args.out.now) (g.O.Sink.view c.args.out.now) (Err c.in-Err.fault) (undone_by (save_name k) (entries_of c.args.save.now)) (λ f. text)) n (unsaid {S = Unit {0}} c.in-Err.fault text (c.in-Err.ensures (g.O.Sink.view c.args.out.now)))));
  rest = g.met.O.Sink.rest_none c.args.out.now;
}

pub undo-requires-clause-save : goal.undo-requires-clause-save
undo-requires-clause-save g c = c.requires.save

pub undo-requires-clause-quiet : goal.undo-requires-clause-quiet
undo-requires-clause-quiet g c = c.requires.quiet
