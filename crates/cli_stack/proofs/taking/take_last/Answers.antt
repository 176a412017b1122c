use Rattle.std.proofs.Common.{sym, ◌∙◌}
use Rattle.std.proofs.lemmas.Bool.{ltb-true}
use Rattle.cli_tool_words.specs.declared.jobs.StackOp.TheVariants.{Pop}
use Rattle.cli_run_answers.specs.declared.why.Why.TheVariants.{StackEnd}
use Rattle.cli_run_answers.proofs.Opens.{opens_none}
use Rattle.cli_stack.proofs.Promising.{carries_early}
use Rattle.cli_stack.proofs.Popped.{end_stops, none_below}
use Rattle.cli_stack.proofs.taking.take_last.Goals as goal

pub take_saved-requires-clause-some : goal.take_saved-requires-clause-some
take_saved-requires-clause-some g c = ltb-true 0 c.args.state.now.stack.applied (sym c.has_applied.ensures ∙ c.if-has_applied.true)

pub returns-else-has_applied : goal.returns-else-has_applied
returns-else-has_applied g c = record {
  carries = λ a. carries_early Pop _ _ a _ (StackEnd 0) (opens_none (g.T.Tree.view c.args.tree.now))
      (end_stops (g.T.Tree.view c.args.tree.now) a (g.O.Sink.view c.args.out.now) c.args.state.now c.requires.state (none_below c.args.state.now.stack.applied (sym c.has_applied.ensures ∙ c.if-has_applied.false)));
  rest = g.met.O.Sink.rest_none c.args.out.now;
}

pub returns-then-has_applied : goal.returns-then-has_applied
returns-then-has_applied g c = record {
  carries = c.take_saved.ensures.carries;
  rest = c.take_saved.ensures.rest;
}

pub take_saved-requires-clause-state : goal.take_saved-requires-clause-state
take_saved-requires-clause-state g c = c.requires.state

pub take_saved-requires-clause-quiet : goal.take_saved-requires-clause-quiet
take_saved-requires-clause-quiet g c = c.requires.quiet
