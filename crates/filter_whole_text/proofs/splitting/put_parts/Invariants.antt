use Rattle.std.proofs.Common.{take, Ok}
use Rattle.filter_whole_text.specs.Parting.{PutsParts, named_parts}
use Rattle.filter_whole_text.proofs.splitting.put_parts.Given as goal

abbrev pub invariant-loop-index : goal.invariant-loop-index
invariant-loop-index g l = record {
  puts : PutsParts (take l.index (named_parts l.text l.names l.parts)) (g.T.Tree.view l.fn.tree) (g.T.Tree.view l.tree) (g.O.Sink.view l.fn.out) (g.O.Sink.view l.out) (Ok tt);
  rest : g.O.Sink.same_rest l.fn.out l.out;
}
