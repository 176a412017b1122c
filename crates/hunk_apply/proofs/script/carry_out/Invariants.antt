use Rattle.std.proofs.Common.{◌≡◌, ◌+◌, ◌-◌, ◌≤◌, ℕ, List, Some, take, drop}
use Rattle.line_store.specs.Store.{Keeps}
use Rattle.outside.specs.SinkView.{SinkPasses}
use Rattle.ed_form.specs.PlainEdit.{edits_of}
use Rattle.hunk_apply.specs.Script.{scripted}
use Rattle.hunk_apply.specs.Written.{Wrote}
use Rattle.hunk_apply.proofs.ScriptLemmas.{BeginFrom}
use Rattle.hunk_apply.proofs.script.carry_out.Given as goal

abbrev pub invariant-loop-k : goal.invariant-loop-k
invariant-loop-k g l =
    let view = g.O.Sink.view in
    record {
      keeps : Keeps (g.S.LineStore.seen l.fn.store) (g.S.LineStore.seen l.store);
      sink : SinkPasses (view l.fn.out) (view l.out);
      rest : g.O.Sink.same_rest l.fn.out l.out;
      low : 1 ≤ l.next;
      high : l.next ≤ (g.S.LineStore.seen l.fn.store).count + 1;
      begin : BeginFrom l.next (edits_of l.text (take l.k l.script.edits.items));
      written : (lines : List (List ℕ)) → (g.S.LineStore.seen l.fn.store).told ≡ Some lines → Wrote (view l.fn.out) (view l.out) l.fn.tail l.now (scripted lines (edits_of l.text l.script.edits.items)) (drop (l.next - 1) (scripted lines (edits_of l.text (take l.k l.script.edits.items))));
    }
