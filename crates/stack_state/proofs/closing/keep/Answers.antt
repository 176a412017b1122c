use Rattle.std.proofs.Common.{[], ◌∷◌, ◌+◌, Err}
use Rattle.outside.specs.Quiet.Effect.{Put}
use Rattle.series_stack.specs.Count.{count_text}
use Rattle.series_stack.specs.Stack.{count_name}
use Rattle.series_stack.specs.Outcomes.{tally}
use Rattle.stack_state.specs.Steps.{Steps}
use Rattle.stack_state.proofs.Stepping.{one_more, then_said, unsaid}
use Rattle.stack_state.proofs.closing.keep.Goals as goal

pub returns-in-Ok : goal.returns-in-Ok
returns-in-Ok g c = record {
  steps = (
      one_more (λ k. Steps {R = Unit {0}} (g.T.Tree.view c.args.tree.now) (g.T.Tree.view c.put_count.new.tree) (g.O.Sink.view c.args.out.now) (g.O.Sink.view c.say_tally.new.out) c.said.result (λ f. Put count_name (count_text k) ∷ []) (λ f. tally k c.args.all)) c.args.applied (
      then_said c.in-Ok.field-0 (tally (c.args.applied + 1) c.args.all) c.say_tally.result c.said.result c.said.ensures (c.in-Ok.ensures (g.O.Sink.view c.args.out.now)) c.say_tally.ensures.writes));
  rest = c.say_tally.ensures.rest;
}

pub returns-in-Err : goal.returns-in-Err
returns-in-Err g c = record {
  steps = (
      one_more (λ k. Steps {R = Unit {0}} (g.T.Tree.view c.args.tree.now) (g.T.Tree.view c.put_count.new.tree) (g.O.Sink.view c.args.out.now) (g.O.Sink.view c.args.out.now) (Err c.in-Err.fault) (λ f. Put count_name (count_text k) ∷ []) (λ f. tally k c.args.all)) c.args.applied (
      unsaid {S = Unit {0}} c.in-Err.fault (tally (c.args.applied + 1) c.args.all) (c.in-Err.ensures (g.O.Sink.view c.args.out.now))));
  rest = g.met.O.Sink.rest_none c.args.out.now;
}

pub put_count-requires : goal.put_count-requires
put_count-requires g c = record { quiet = c.requires.quiet }
