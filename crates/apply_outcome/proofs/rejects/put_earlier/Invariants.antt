use Rattle.std.proofs.Common.{Ok, take}
use Rattle.outside.specs.declared.Failed.{Failed}
use Rattle.outside.specs.SinkView.{Writes}
use Rattle.apply_outcome.specs.Outcome.{rejected_before}
use Rattle.apply_outcome.specs.ContextView.{plain_context}
use Rattle.apply_outcome.proofs.rejects.put_earlier.Given as goal

abbrev pub invariant-loop-k : goal.invariant-loop-k
invariant-loop-k g l = record {
  writes : Writes {R = Unit {0}} {E = Failed} (g.O.Sink.view l.fn.out) (g.O.Sink.view l.out) (Ok tt) (rejected_before (take l.k (plain_context l.turn).past) l.name);
  rest : g.O.Sink.same_rest l.fn.out l.out;
}
