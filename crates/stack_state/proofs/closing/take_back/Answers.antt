use Rattle.std.proofs.Common.{◌∷◌, codes, suc}
use Rattle.outside.specs.Quiet.{after}
use Rattle.series_stack.specs.Saves.{entries_of}
use Rattle.series_stack.specs.Stack.{save_name, undoing_by}
use Rattle.series_stack.specs.Outcomes.{lowering, said, tally}
use Rattle.stack_state.proofs.Stepping.{says, says_not, steps_stop, steps_then}
use Rattle.stack_state.proofs.closing.take_back.Goals as goal

pub returns-in-Ok : goal.returns-in-Ok
returns-in-Ok g c = record {
  steps = steps_then c.in-Ok.field-0 c.lower.result (says (g.T.Tree.view c.args.tree.now) c.in-Ok.field-0 c.in-Ok.field-0 (said (codes "Removing patch ") c.args.name.now) c.requires.quiet c.in-Ok.ensures.writes) c.lower.ensures.steps;
  rest = g.met.O.Sink.rest_both _ _ _ c.say_removing.ensures.rest c.lower.ensures.rest;
}

pub returns-in-Err : goal.returns-in-Err
returns-in-Err g c = record {
  steps = (
      steps_stop {R = Unit {0}} _
      (λ f. lowering c.args.before ∷ undoing_by (save_name (suc c.args.before)) (entries_of c.args.save.now) (after (lowering c.args.before) f)) (λ f. tally c.args.before c.args.all)
      (says_not (g.T.Tree.view c.args.tree.now) c.in-Err.field-0 (said (codes "Removing patch ") c.args.name.now) c.requires.quiet c.in-Err.ensures.writes));
  rest = c.say_removing.ensures.rest;
}

pub lower-requires-clause-there : goal.lower-requires-clause-there
lower-requires-clause-there g c = c.requires.there

pub lower-requires-clause-save : goal.lower-requires-clause-save
lower-requires-clause-save g c = c.requires.save

pub lower-requires-clause-quiet : goal.lower-requires-clause-quiet
lower-requires-clause-quiet g c = c.requires.quiet

pub lower-requires-clause-few : goal.lower-requires-clause-few
lower-requires-clause-few g c = c.requires.few
