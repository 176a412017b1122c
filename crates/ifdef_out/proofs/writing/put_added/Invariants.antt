use Rattle.std.proofs.Common.{◌++◌, ℕ, List, length}
use Rattle.outside.specs.SinkView.{SinkPasses}
use Rattle.hunk_apply.specs.Written.{Wrote}
use Rattle.ifdef_out.specs.Chain.{block_added}
use Rattle.ifdef_out.specs.Places.{edits_left}
use Rattle.ifdef_out.proofs.writing.put_added.Given as goal

abbrev pub invariant-loop-found : goal.invariant-loop-found
invariant-loop-found g l =
    let view = g.O.Sink.view in
    record {
      sink : SinkPasses (view l.fn.out) (view l.out);
      rest : g.O.Sink.same_rest l.fn.out l.out;
      written : (more : List (List ℕ)) → Wrote (view l.fn.out) (view l.out) l.fn.tail l.now (block_added l.fn.first (edits_left l.edits l.fn.place) ++ more) (block_added l.next (edits_left l.edits l.at) ++ more);
    }

abbrev pub decreases-loop-found : goal.decreases-loop-found
decreases-loop-found g l = length (edits_left l.edits l.at)
