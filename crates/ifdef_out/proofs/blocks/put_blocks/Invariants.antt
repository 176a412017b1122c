use Rattle.std.proofs.Common.{◌≡◌, ℕ, List, length, Some}
use Rattle.line_store.specs.Store.{Keeps}
use Rattle.outside.specs.SinkView.{SinkPasses}
use Rattle.read_file_patch.specs.PlainPatch.{change_of}
use Rattle.ifdef_out.specs.Chain.{AreInOrder}
use Rattle.ifdef_out.specs.Placed.{change_edits}
use Rattle.ifdef_out.specs.Places.{edits_left}
use Rattle.ifdef_out.proofs.Going.{Going}
use Rattle.ifdef_out.proofs.blocks.put_blocks.Given as goal

abbrev pub invariant-loop-found : goal.invariant-loop-found
invariant-loop-found g l =
    let view = g.O.Sink.view in
    let all = change_edits l.edits.verdicts.now l.edits.side (change_of l.edits.text.now l.edits.change.now) in
    record {
      keeps : Keeps (g.S.LineStore.seen l.fn.store) (g.S.LineStore.seen l.store);
      sink : SinkPasses (view l.fn.out) (view l.out);
      rest : g.O.Sink.same_rest l.fn.out l.out;
      going : (lines : List (List ℕ)) → (g.S.LineStore.seen l.fn.store).told ≡ Some lines → AreInOrder (length lines) 1 all → Going l.define lines all (view l.fn.out) (view l.out) l.now (edits_left l.edits l.place) l.next;
    }

abbrev pub decreases-loop-found : goal.decreases-loop-found
decreases-loop-found g l = length (edits_left l.edits l.place)
