use Rattle.std.proofs.Common.{◌+◌, ◌++◌, ℕ, List, ◌∷◌, take, drop, refl, arith, ◌<◌, subst}
use Rattle.std.proofs.lemmas.Bool.{false≢true}
use Rattle.outside.specs.SinkView.{sink_passes_none, sink_passes_both, ReceivesPart}
use Rattle.outside.proofs.Exits.{if_ok_none}
use Rattle.hunk_core.specs.PlainHunk.{bytes_at}
use Rattle.ed_form.specs.PlainEdit.{lines_of}
use Rattle.hunk_apply.specs.Written.{join_behind}
use Rattle.hunk_apply.proofs.ScriptLemmas.{added-more, added-split, added-all}
use Rattle.hunk_apply.proofs.FaultLemmas.{on-err}
use Rattle.hunk_apply.proofs.WrittenLemmas.{wrote-none, wrote-both, wrote-same, wrote-line, part-after, part-same, part-line}
use Rattle.hunk_apply.proofs.script.put_added.Goals as goal

pub loop-k-init : goal.loop-k-init
loop-k-init g c = record {
  sink = sink_passes_none _;
  rest = g.met.O.Sink.rest_none _;
  written = λ more. wrote-none (g.O.Sink.view c.args.out.now) c.args.tail more;
}

pub loop-k-preserved : goal.loop-k-preserved
loop-k-preserved g c =
    let view = g.O.Sink.view in
    let text = c.args.text.now in
    let spans = c.args.edit.now.added.items in
    let k = c.loop-k.k in
    let span = c.index-span.result.now in
    record {
      sink = sink_passes_both c.loop-k.invariant.sink c.in_ok-now.ensures.call.passes;
      rest = g.met.O.Sink.rest_both _ _ _ c.loop-k.invariant.rest c.in_ok-now.ensures.rest;
      written = λ more.
          wrote-same (view c.args.out.now) (view c.put_line.new.out) c.args.tail c.in_ok-now.now
          (lines_of text (take k spans) ++ (bytes_at text span ∷ more)) (lines_of text (take (k + 1) spans) ++ more) more more
          (added-more text spans k span more (omega arith) c.index-span.ensures) refl
          (wrote-both (view c.args.out.now) (view c.loop-k.out) (view c.put_line.new.out) c.args.tail c.loop-k.now c.in_ok-now.now
          (lines_of text (take k spans) ++ (bytes_at text span ∷ more)) (bytes_at text span ∷ more) more
          (c.loop-k.invariant.written (bytes_at text span ∷ more))
          (wrote-line (view c.loop-k.out) (view c.put_line.new.out) c.loop-k.now c.in_ok-now.now (bytes_at text span) (bytes_at text span ∷ more) more refl c.in_ok-now.ensures.received c.in_ok-now.ensures.end c.in_ok-now.ensures.nothing));
    }

pub index-span-requires : goal.index-span-requires
index-span-requires g c = subst (λ n. c.loop-k.k < n) c.len-k-end.ensures c.loop-k-test.true

pub returns-in_err-now : goal.returns-in_err-now
returns-in_err-now g c = record {
  call = record {
    passes = sink_passes_both c.loop-k.invariant.sink c.in_err-now.ensures.call.passes;
    cause = λ err small. omega (arith, c.in_err-now.ensures.call.cause refl small, c.loop-k.invariant.sink.counts);
  };
  rest = g.met.O.Sink.rest_both _ _ _ c.loop-k.invariant.rest c.in_err-now.ensures.rest;
  part = (
      let view = g.O.Sink.view in
      let text = c.args.text.now in
      let spans = c.args.edit.now.added.items in
      let k = c.loop-k.k in
      let span = c.index-span.result.now in
      on-err _ ((more : List (List ℕ)) → ReceivesPart (view c.args.out.now) (view c.put_line.new.out) (join_behind c.args.tail.is_open (lines_of text spans ++ more)))
      (λ more.
      let left : List (List ℕ) = lines_of text (drop (k + 1) spans) ++ more in
      part-same (view c.args.out.now) (view c.put_line.new.out) c.args.tail.is_open
      (lines_of text (take k spans) ++ (bytes_at text span ∷ left)) (lines_of text spans ++ more)
      (added-split text spans k span more (omega arith) c.index-span.ensures)
      (part-after (view c.args.out.now) (view c.loop-k.out) (view c.put_line.new.out) c.args.tail c.loop-k.now
      (lines_of text (take k spans) ++ (bytes_at text span ∷ left)) (bytes_at text span ∷ left)
      (c.loop-k.invariant.written (bytes_at text span ∷ left))
      (part-line (view c.loop-k.out) (view c.put_line.new.out) c.loop-k.now (bytes_at text span) (bytes_at text span ∷ left) left refl c.in_err-now.ensures.failed))));
  written = if_ok_none _ _ c.from_residual.result c.from_residual.ensures.1;
}

pub returns : goal.returns
returns g c = record {
  call = record { passes = c.loop-k.invariant.sink; cause = λ err. absurd (false≢true err) };
  written = λ more.
      let view = g.O.Sink.view in
      wrote-same (view c.args.out.now) (view c.loop-k.out) c.args.tail c.loop-k.now
      (lines_of c.args.text.now (take c.loop-k.k c.args.edit.now.added.items) ++ more) (lines_of c.args.text.now c.args.edit.now.added.items ++ more) more more
      (added-all c.args.text.now c.args.edit.now.added.items c.loop-k.k more (omega arith)) refl
      (c.loop-k.invariant.written more);
  rest = c.loop-k.invariant.rest;
  part = tt;
}
