use Rattle.std.proofs.Common.{map, string_bytes}
use Rattle.cli_filter.specs.InTurn.{CallRuns, devices}
use Rattle.cli_filter.proofs.Turning.{Completes}
use Rattle.cli_filter.proofs.turns.run_calls.Given as goal

abbrev pub invariant-loop-call : goal.invariant-loop-call
invariant-loop-call g l = record {
  runs : Completes (CallRuns g.T.Tree.view g.F.Finder.view g.I.Source.view g.O.Sink.view) (λ c. map string_bytes c.items) l.calls (devices l.fn.tree l.fn.finder l.fn.source l.fn.out) (devices l.tree l.finder l.source l.out) l.call-index;
  rest : g.O.Sink.same_rest l.fn.out l.out;
}
