use Rattle.std.proofs.Common.{List, suc, ap, ◌∙◌}
use Rattle.std.specs.Prelude.{option_map, vec_items}
use Rattle.outside.specs.Quiet.{Effect}
use Rattle.series_stack.specs.Stack.{undoing}
use Rattle.series_stack.specs.Outcomes.{recovered_text}
use Rattle.stack_state.proofs.Stepping.{steps_is, steps_none}
use Rattle.stack_state.proofs.Restoring.{none-undone}
use Rattle.stack_state.proofs.closing.recover.Goals as goal

pub returns-in-None : goal.returns-in-None
returns-in-None g c = record {
  steps = (
      let n = c.args.applied in
      steps_is _ (undoing (suc n)) (λ f. recovered_text n (undoing (suc n) f))
      (λ f told. none-undone (suc n) f (c.requires.held f told ∙ ap (λ o. option_map vec_items o) c.in-None.is))
      (λ f told. ap (λ (es : List Effect). recovered_text n es) (none-undone (suc n) f (c.requires.held f told ∙ ap (λ o. option_map vec_items o) c.in-None.is)))
      (steps_none (g.T.Tree.view c.args.tree.now) (g.O.Sink.view c.args.out.now) tt c.requires.quiet));
  rest = g.met.O.Sink.rest_none c.args.out.now;
}

pub returns-in-Some : goal.returns-in-Some
returns-in-Some g c = record {
  steps = c.recover_by.ensures.steps;
  rest = c.recover_by.ensures.rest;
}

pub recover_by-requires-clause-few : goal.recover_by-requires-clause-few
recover_by-requires-clause-few g c = c.requires.few

pub recover_by-requires-clause-quiet : goal.recover_by-requires-clause-quiet
recover_by-requires-clause-quiet g c = c.requires.quiet
