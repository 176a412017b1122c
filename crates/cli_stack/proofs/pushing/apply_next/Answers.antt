use Rattle.std.proofs.Common.{drop, suc, sym, ◌∙◌, Ok}
use Rattle.std.proofs.lemmas.Bool.{ltb-true}
use Rattle.outside.proofs.Views.{untouched_quiet}
use Rattle.cli_tool_words.specs.declared.jobs.StackOp.TheVariants.{Push}
use Rattle.cli_run_answers.specs.declared.why.Why.TheVariants.{StackEnd}
use Rattle.cli_run_answers.proofs.Opens.{opens_none, opens_untouched}
use Rattle.cli_stack.proofs.Promising.{carries_behind, carries_early, carries_late}
use Rattle.cli_stack.proofs.Standing.{state_on}
use Rattle.cli_stack.proofs.Pushed.{all_stops, next_on, not_less}
use Rattle.cli_stack.proofs.pushing.apply_next.Goals as goal

pub next_name-name-requires : goal.next_name-name-requires
next_name-name-requires g c = ltb-true _ _ (sym c.has_next.ensures ∙ c.if-has_next.true)

pub read_next-requires-clause-state : goal.read_next-requires-clause-state
read_next-requires-clause-state g c = c.requires.state

pub read_next-requires-clause-name : goal.read_next-requires-clause-name
read_next-requires-clause-name g c = record { more = drop (suc c.args.state.now.stack.applied) c.args.state.now.stack.patches.items; left = c.next_name-name.ensures }

pub push_next-ended-requires-clause-state : goal.push_next-ended-requires-clause-state
push_next-ended-requires-clause-state g c = state_on c.read_next.ensures.untouched c.requires.state

pub push_next-ended-requires-clause-name : goal.push_next-ended-requires-clause-name
push_next-ended-requires-clause-name g c = record { more = drop (suc c.args.state.now.stack.applied) c.args.state.now.stack.patches.items; left = c.next_name-name.ensures }

pub push_next-ended-requires-clause-next : goal.push_next-ended-requires-clause-next
push_next-ended-requires-clause-next g c = next_on c.read_next.ensures.untouched c.in-Ok.ensures.next

pub push_next-ended-requires-clause-quiet : goal.push_next-ended-requires-clause-quiet
push_next-ended-requires-clause-quiet g c = untouched_quiet c.read_next.ensures.untouched c.requires.quiet

pub returns-in-Ok : goal.returns-in-Ok
returns-in-Ok g c = record {
  carries = carries_behind (Ok Push) _ _ _ _ (opens_untouched c.read_next.ensures.untouched) _ _ (carries_late Push _ _ _ (λ never. absurd (never tt)) c.push_next-ended.ensures.comes);
  rest = c.push_next-ended.ensures.rest;
}

pub returns-in-Err : goal.returns-in-Err
returns-in-Err g c = record {
  carries = carries_early Push _ _ _ _ c.in-Err.why (opens_untouched c.read_next.ensures.untouched) (c.in-Err.ensures.refused _ _);
  rest = g.met.O.Sink.rest_none c.args.out.now;
}

pub returns-else-has_next : goal.returns-else-has_next
returns-else-has_next g c = record {
  carries = carries_early Push _ _ _ _ (StackEnd c.args.state.now.stack.applied) (opens_none (g.T.Tree.view c.args.tree.now))
      (all_stops (g.T.Tree.view c.args.tree.now) _ _ c.args.state.now c.requires.state (not_less _ _ (sym c.has_next.ensures ∙ c.if-has_next.false)));
  rest = g.met.O.Sink.rest_none c.args.out.now;
}
