use Rattle.std.proofs.Common.{Ok}
use Rattle.cli_stack.specs.InTurn.{OneRuns, devices}
use Rattle.cli_stack.proofs.Turning.{Completes}
use Rattle.cli_stack.proofs.turns.run_more.Given as goal

abbrev pub invariant-loop : goal.invariant-loop
invariant-loop g l = record {
  runs : Completes (OneRuns g.T.Tree.view g.C.Scratch.view g.O.Sink.view (Ok l.op)) 9999 (devices l.fn.tree l.fn.scratch l.fn.out) (devices l.tree l.kept l.out) l.counter;
  rest : g.O.Sink.same_rest l.fn.out l.out;
}
