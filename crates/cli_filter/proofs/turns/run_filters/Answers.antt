use Rattle.std.proofs.Common.{List, ℕ, map, ap, string_bytes, subst, ◌∙◌}
use Rattle.cli_tool_words.specs.Calls.{calls_of}
use Rattle.cli_tool_words.proofs.Calling.{calls_some}
use Rattle.cli_filter.specs.InTurn.{CallRuns, InTurn, devices}
use Rattle.cli_filter.proofs.Turning.{none_run}
use Rattle.cli_filter.proofs.turns.run_filters.Goals as goal

pub returns-in-Ok : goal.returns-in-Ok
returns-in-Ok g c = record {
  runs = subst (λ (calls : List (List (List ℕ))). InTurn (CallRuns g.T.Tree.view g.F.Finder.view g.I.Source.view g.O.Sink.view) calls (devices c.args.tree.now c.args.finder.now c.args.source.now c.args.out.now) (devices c.run_calls-why.new.tree c.run_calls-why.new.finder c.run_calls-why.new.source c.run_calls-why.new.out) c.run_calls-why.result)
      (ap (map (λ x. map string_bytes x.items)) c.deref.ensures.value ∙ c.in-Ok.ensures) c.run_calls-why.ensures.runs;
  rest = c.run_calls-why.ensures.rest;
}

pub returns-in-Err : goal.returns-in-Err
returns-in-Err g c = record {
  runs = none_run g.T.Tree.view g.F.Finder.view g.I.Source.view g.O.Sink.view (calls_of (map string_bytes c.args.words.now)) (devices c.args.tree.now c.args.finder.now c.args.source.now c.args.out.now) (calls_some (map string_bytes c.args.words.now));
  rest = g.met.O.Sink.rest_none c.args.out.now;
}
