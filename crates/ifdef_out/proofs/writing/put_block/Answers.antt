use Rattle.std.proofs.Common.{◌≡◌, ◌≤◌, ◌+◌, ◌++◌, ℕ, List, ◌∷◌, Some, length, true, refl, sym, arith}
use Rattle.line_store.proofs.StoreLemmas.{keeps-same}
use Rattle.outside.specs.SinkView.{sink_passes_both, ReceivesPart}
use Rattle.outside.proofs.Exits.{if_ok_none}
use Rattle.hunk_apply.specs.declared.ApplyFault.TheVariants.{Write}
use Rattle.hunk_apply.specs.Faults.{HasApplyCause}
use Rattle.hunk_apply.specs.Written.{lines_between, join_behind}
use Rattle.hunk_apply.proofs.FaultLemmas.{on-err, if-err-still, apply-cause-more}
use Rattle.hunk_apply.proofs.WrittenLemmas.{wrote-both, wrote-line, wrote-same, part-after, part-line, part-same}
use Rattle.ifdef_out.specs.Chain.{block_added}
use Rattle.ifdef_out.specs.Places.{edits_left}
use Rattle.ifdef_out.specs.Tagged.{closed, endif_line, opening, texts}
use Rattle.ifdef_out.proofs.BlockLemmas.{grows}
use Rattle.ifdef_out.proofs.TaggedLemmas.{closed-split}
use Rattle.ifdef_out.proofs.writing.put_block.Goals as goal

pub returns-in_err-opened : goal.returns-in_err-opened
returns-in_err-opened g c = record {
  written = if_ok_none _ _ c.from_residual.result c.from_residual.ensures.1;
  part =
      let view = g.O.Sink.view in
      let first = c.args.first in
      let end = c.args.block.end in
      let left = edits_left c.args.edits c.args.place in
      let own = block_added first left in
      on-err _ ((lines : List (List ℕ)) → (g.S.LineStore.seen c.args.store.now).told ≡ Some lines → 1 ≤ c.args.first → c.args.block.end ≤ length lines + 1 → (more : List (List ℕ)) → ReceivesPart (view c.args.out.now) (view c.put_opening.new.out) (join_behind c.args.tail.is_open (texts (closed c.args.define.now (lines_between lines c.args.first c.args.block.end) own) ++ more)))
      (λ lines told low high more.
      let ds : List (List ℕ) = lines_between lines first end in
      let rest : List (List ℕ) = own ++ (endif_line ∷ more) in
      part-same (view c.args.out.now) (view c.put_opening.new.out) c.args.tail.is_open (texts (opening c.args.define.now ds own) ++ rest) (texts (closed c.args.define.now ds own) ++ more)
      (sym (closed-split c.args.define.now ds own more))
      (c.in_err-opened.ensures.part lines told low (omega (arith, grows first left, c.requires.block.end)) high own c.requires.block.adding rest));
  keeps = c.in_err-opened.ensures.keeps;
  sink = c.in_err-opened.ensures.sink;
  rest = c.in_err-opened.ensures.rest;
  cause =
      let view = g.O.Sink.view in
      let a = g.S.LineStore.seen c.args.store.now in
      let d = g.S.LineStore.seen c.put_opening.new.store in
      let fault = c.in_err-opened.field-0.0 in
      if-err-still (λ e. HasApplyCause e a d (view c.args.out.now) (view c.put_opening.new.out)) fault c.from_residual.result c.from_residual.ensures.1 (c.in_err-opened.ensures.cause);
}

pub returns-in_err-added : goal.returns-in_err-added
returns-in_err-added g c = record {
  written = if_ok_none _ _ c.from_residual-in_err-added.result c.from_residual-in_err-added.ensures.1;
  part =
      let view = g.O.Sink.view in
      let first = c.args.first in
      let end = c.args.block.end in
      let left = edits_left c.args.edits c.args.place in
      let own = block_added first left in
      on-err _ ((lines : List (List ℕ)) → (g.S.LineStore.seen c.args.store.now).told ≡ Some lines → 1 ≤ c.args.first → c.args.block.end ≤ length lines + 1 → (more : List (List ℕ)) → ReceivesPart (view c.args.out.now) (view c.put_added.new.out) (join_behind c.args.tail.is_open (texts (closed c.args.define.now (lines_between lines c.args.first c.args.block.end) own) ++ more)))
      (λ lines told low high more.
      let ds : List (List ℕ) = lines_between lines first end in
      let rest : List (List ℕ) = own ++ (endif_line ∷ more) in
      part-same (view c.args.out.now) (view c.put_added.new.out) c.args.tail.is_open (texts (opening c.args.define.now ds own) ++ rest) (texts (closed c.args.define.now ds own) ++ more)
      (sym (closed-split c.args.define.now ds own more))
      (part-after (view c.args.out.now) (view c.put_opening.new.out) (view c.put_added.new.out) c.args.tail c.in_ok-opened.opened (texts (opening c.args.define.now ds own) ++ rest) rest
      (c.in_ok-opened.ensures.written lines told low (omega (arith, grows first left, c.requires.block.end)) high own c.requires.block.adding rest)
      (c.in_err-added.ensures.part (endif_line ∷ more))));
  keeps = c.in_ok-opened.ensures.keeps;
  sink = sink_passes_both c.in_ok-opened.ensures.sink c.in_err-added.ensures.call.passes;
  rest = g.met.O.Sink.rest_both _ _ _ c.in_ok-opened.ensures.rest c.in_err-added.ensures.rest;
  cause =
      let view = g.O.Sink.view in
      let a = g.S.LineStore.seen c.args.store.now in
      let d = g.S.LineStore.seen c.put_opening.new.store in
      if-err-still (λ e. HasApplyCause e a d (view c.args.out.now) (view c.put_added.new.out)) Write c.from_residual-in_err-added.result c.from_residual-in_err-added.ensures.1 (apply-cause-more Write a a a (view c.args.out.now) (view c.put_opening.new.out) (view c.put_added.new.out) (keeps-same a) c.in_ok-opened.ensures.sink (c.in_err-added.ensures.call.cause (refl {a = true})));
}

pub returns-in_err-end : goal.returns-in_err-end
returns-in_err-end g c = record {
  written = if_ok_none _ _ c.from_residual-in_err-end.result c.from_residual-in_err-end.ensures.1;
  part =
      let view = g.O.Sink.view in
      let first = c.args.first in
      let end = c.args.block.end in
      let left = edits_left c.args.edits c.args.place in
      let own = block_added first left in
      on-err _ ((lines : List (List ℕ)) → (g.S.LineStore.seen c.args.store.now).told ≡ Some lines → 1 ≤ c.args.first → c.args.block.end ≤ length lines + 1 → (more : List (List ℕ)) → ReceivesPart (view c.args.out.now) (view c.put_line.new.out) (join_behind c.args.tail.is_open (texts (closed c.args.define.now (lines_between lines c.args.first c.args.block.end) own) ++ more)))
      (λ lines told low high more.
      let ds : List (List ℕ) = lines_between lines first end in
      let rest : List (List ℕ) = own ++ (endif_line ∷ more) in
      part-same (view c.args.out.now) (view c.put_line.new.out) c.args.tail.is_open (texts (opening c.args.define.now ds own) ++ rest) (texts (closed c.args.define.now ds own) ++ more)
      (sym (closed-split c.args.define.now ds own more))
      (part-after (view c.args.out.now) (view c.put_added.new.out) (view c.put_line.new.out) c.args.tail c.in_ok-added.added (texts (opening c.args.define.now ds own) ++ rest) (endif_line ∷ more)
      (wrote-both (view c.args.out.now) (view c.put_opening.new.out) (view c.put_added.new.out) c.args.tail c.in_ok-opened.opened c.in_ok-added.added (texts (opening c.args.define.now ds own) ++ rest) rest (endif_line ∷ more)
      (c.in_ok-opened.ensures.written lines told low (omega (arith, grows first left, c.requires.block.end)) high own c.requires.block.adding rest)
      (c.in_ok-added.ensures.written (endif_line ∷ more)))
      (part-line (view c.put_added.new.out) (view c.put_line.new.out) c.in_ok-added.added endif_line (endif_line ∷ more) more refl c.in_err-end.ensures.failed)));
  keeps = c.in_ok-opened.ensures.keeps;
  sink = sink_passes_both (sink_passes_both c.in_ok-opened.ensures.sink c.in_ok-added.ensures.call.passes) c.in_err-end.ensures.call.passes;
  rest = g.met.O.Sink.rest_both _ _ _ (g.met.O.Sink.rest_both _ _ _ c.in_ok-opened.ensures.rest c.in_ok-added.ensures.rest) c.in_err-end.ensures.rest;
  cause =
      let view = g.O.Sink.view in
      let a = g.S.LineStore.seen c.args.store.now in
      let d = g.S.LineStore.seen c.put_opening.new.store in
      if-err-still (λ e. HasApplyCause e a d (view c.args.out.now) (view c.put_line.new.out)) Write c.from_residual-in_err-end.result c.from_residual-in_err-end.ensures.1 (apply-cause-more Write a a a (view c.args.out.now) (view c.put_added.new.out) (view c.put_line.new.out) (keeps-same a) (sink_passes_both c.in_ok-opened.ensures.sink c.in_ok-added.ensures.call.passes) (c.in_err-end.ensures.call.cause (refl {a = true})));
}

pub returns : goal.returns
returns g c = record {
  written = λ lines told low high more.
      let view = g.O.Sink.view in
      let first = c.args.first in
      let end = c.args.block.end in
      let left = edits_left c.args.edits c.args.place in
      let own = block_added first left in
      let ds : List (List ℕ) = lines_between lines first end in
      let rest : List (List ℕ) = own ++ (endif_line ∷ more) in
      wrote-same (view c.args.out.now) (view c.put_line.new.out) c.args.tail c.in_ok-end.end (texts (opening c.args.define.now ds own) ++ rest) (texts (closed c.args.define.now ds own) ++ more) more more
      (sym (closed-split c.args.define.now ds own more)) refl
      (wrote-both (view c.args.out.now) (view c.put_added.new.out) (view c.put_line.new.out) c.args.tail c.in_ok-added.added c.in_ok-end.end (texts (opening c.args.define.now ds own) ++ rest) (endif_line ∷ more) more
      (wrote-both (view c.args.out.now) (view c.put_opening.new.out) (view c.put_added.new.out) c.args.tail c.in_ok-opened.opened c.in_ok-added.added (texts (opening c.args.define.now ds own) ++ rest) rest (endif_line ∷ more)
      (c.in_ok-opened.ensures.written lines told low (omega (arith, grows first left, c.requires.block.end)) high own c.requires.block.adding rest)
      (c.in_ok-added.ensures.written (endif_line ∷ more)))
      (wrote-line (view c.put_added.new.out) (view c.put_line.new.out) c.in_ok-added.added c.in_ok-end.end endif_line (endif_line ∷ more) more refl c.in_ok-end.ensures.received c.in_ok-end.ensures.end c.in_ok-end.ensures.nothing));
  part = tt;
  keeps = c.in_ok-opened.ensures.keeps;
  sink = sink_passes_both (sink_passes_both c.in_ok-opened.ensures.sink c.in_ok-added.ensures.call.passes) c.in_ok-end.ensures.call.passes;
  rest = g.met.O.Sink.rest_both _ _ _ (g.met.O.Sink.rest_both _ _ _ c.in_ok-opened.ensures.rest c.in_ok-added.ensures.rest) c.in_ok-end.ensures.rest;
  cause = tt;
}
