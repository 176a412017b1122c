use Rattle.std.proofs.Common.{◌++◌, ℕ, List, take}
use Rattle.outside.specs.SinkView.{SinkPasses}
use Rattle.ed_form.specs.PlainEdit.{lines_of}
use Rattle.hunk_apply.specs.Written.{Wrote}
use Rattle.hunk_apply.proofs.script.put_added.Given as goal

abbrev pub invariant-loop-k : goal.invariant-loop-k
invariant-loop-k g l =
    let view = g.O.Sink.view in
    record {
      sink : SinkPasses (view l.fn.out) (view l.out);
      rest : g.O.Sink.same_rest l.fn.out l.out;
      written : (more : List (List ℕ)) → Wrote (view l.fn.out) (view l.out) l.fn.tail l.now (lines_of l.text (take l.k l.edit.added.items) ++ more) more;
    }
