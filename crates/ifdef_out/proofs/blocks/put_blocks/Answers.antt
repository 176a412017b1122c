use Rattle.std.proofs.Common.{◌≡◌, ◌++◌, ℕ, List, [], Some, length, ◌≤◌, ◌+◌, refl, ap, ◌∙◌, arith}
use Rattle.std.proofs.lemmas.Result.{IfErr-weaker}
use Rattle.line_store.proofs.StoreLemmas.{keeps-same, keeps-more}
use Rattle.outside.specs.SinkView.{sink_passes_none, sink_passes_both, Receives, ReceivesPart}
use Rattle.outside.proofs.Exits.{if_ok_none}
use Rattle.read_file_patch.specs.PlainPatch.{change_of}
use Rattle.hunk_apply.proofs.FaultLemmas.{on-err, on-err-map, if-ok-map, if-err-still, apply-cause-more}
use Rattle.hunk_apply.specs.Faults.{HasApplyCause}
use Rattle.hunk_apply.proofs.WrittenLemmas.{wrote-same, part-same}
use Rattle.hunk_apply.specs.Splice.{Edit}
use Rattle.hunk_apply.specs.Written.{Wrote, lines_between, join_behind}
use Rattle.ifdef_out.specs.Chain.{AreInOrder, block_added, block_end}
use Rattle.ifdef_out.specs.Placed.{change_edits}
use Rattle.ifdef_out.specs.Places.{IsFound, edits_left, edit_at}
use Rattle.ifdef_out.specs.Tagged.{closed, ifdef_text, texts}
use Rattle.ifdef_out.proofs.BlockLemmas.{Ahead, ahead}
use Rattle.ifdef_out.proofs.ChainLemmas.{less-left}
use Rattle.ifdef_out.proofs.Going.{Going, going-none, going-on, own, after, part-copied, part-block, part-last, wrote-last}
use Rattle.ifdef_out.proofs.blocks.put_blocks.Goals as goal

pub loop-found-init : goal.loop-found-init
loop-found-init g c = record {
  keeps = keeps-same _;
  sink = sink_passes_none _;
  rest = g.met.O.Sink.rest_none _;
  going = λ lines told order. going-none c.args.define.now lines _ (g.O.Sink.view c.args.out.now) (edits_left c.args.edits c.start-place.result) c.start-place.ensures order;
}

pub loop-found-smaller : goal.loop-found-smaller
loop-found-smaller g c =
    let f : IsFound c.args.edits c.loop-found.place c.in-Some.found = c.in-Some.ensures in
    less-left (edit_at c.args.edits.text.now c.in-Some.found.edit) (edits_left c.args.edits c.in-Some.found.behind) (edits_left c.args.edits c.loop-found.place) (edits_left c.args.edits c.block_at-block.result.behind) f.left c.block_at-block.ensures.behind

pub loop-found-preserved : goal.loop-found-preserved
loop-found-preserved g c =
    let view = g.O.Sink.view in
    let name = c.args.define.now in
    let left = edits_left c.args.edits c.loop-found.place in
    let behind = edits_left c.args.edits c.block_at-block.result.behind in
    let f : IsFound c.args.edits c.loop-found.place c.in-Some.found = c.in-Some.ensures in
    let e : Edit = edit_at c.args.edits.text.now c.in-Some.found.edit in
    let all = change_edits c.args.edits.verdicts.now c.args.edits.side (change_of c.args.edits.text.now c.args.edits.change.now) in
    record {
      keeps = keeps-more _ _ _ c.loop-found.invariant.keeps (keeps-more _ _ _ c.in_ok-copied.ensures.keeps c.in_ok-now.ensures.keeps);
      sink = sink_passes_both c.loop-found.invariant.sink (sink_passes_both c.in_ok-copied.ensures.sink c.in_ok-now.ensures.sink);
      rest = g.met.O.Sink.rest_both _ _ _ c.loop-found.invariant.rest (g.met.O.Sink.rest_both _ _ _ c.in_ok-copied.ensures.rest c.in_ok-now.ensures.rest);
      going = λ lines told order.
          let w : Going name lines all (view c.args.out.now) (view c.loop-found.out) c.loop-found.now left c.loop-found.next = c.loop-found.invariant.going lines told order in
          let a : Ahead name lines left c.loop-found.next e = ahead name lines left c.loop-found.next e (edits_left c.args.edits c.in-Some.found.behind) f.left w.low w.order in
          let within : block_end e.at left ≤ length lines + 1 = a.cut.within in
          let high : c.block_at-block.result.end ≤ length lines + 1 = omega (arith, c.block_at-block.ensures.end) in
          let body : List (List ℕ) = own name lines all (view c.args.out.now) (view c.loop-found.out) c.loop-found.now left c.loop-found.next w e a in
          let rest : List (List ℕ) = after name lines all (view c.args.out.now) (view c.loop-found.out) c.loop-found.now left c.loop-found.next w e a in
          let there = c.loop-found.invariant.keeps.told ∙ told in
          going-on name lines all (view c.args.out.now) (view c.loop-found.out) c.loop-found.now left c.loop-found.next w e a
          (view c.copy_within.new.out) c.in_ok-copied.copied (c.in_ok-copied.ensures.written lines there w.low a.behind a.high (body ++ rest))
          (view c.put_block.new.out) c.in_ok-now.now behind c.block_at-block.result.end
          (wrote-same (view c.copy_within.new.out) (view c.put_block.new.out) c.in_ok-copied.copied c.in_ok-now.now
          (texts (closed name (lines_between lines e.at c.block_at-block.result.end) (block_added e.at left)) ++ rest) (body ++ rest) rest rest
          (ap (λ (k : ℕ). texts (closed name (lines_between lines e.at k) (block_added e.at left)) ++ rest) c.block_at-block.ensures.end) refl
          (c.in_ok-now.ensures.written lines (c.in_ok-copied.ensures.keeps.told ∙ there) a.low high rest))
          c.block_at-block.ensures.end c.block_at-block.ensures.behind;
    }

pub returns-in_err-copied : goal.returns-in_err-copied
returns-in_err-copied g c = record {
  received = if_ok_none _ _ c.from_residual.result c.from_residual.ensures.1;
  part =
      let view = g.O.Sink.view in
      let name = c.args.define.now in
      let left = edits_left c.args.edits c.loop-found.place in
      let f : IsFound c.args.edits c.loop-found.place c.in-Some.found = c.in-Some.ensures in
      let e : Edit = edit_at c.args.edits.text.now c.in-Some.found.edit in
      let all = change_edits c.args.edits.verdicts.now c.args.edits.side (change_of c.args.edits.text.now c.args.edits.change.now) in
      on-err _ ((lines : List (List ℕ)) → (g.S.LineStore.seen c.args.store.now).told ≡ Some lines → AreInOrder (length lines) 1 all → ReceivesPart (view c.args.out.now) (view c.copy_within.new.out) (ifdef_text name lines all))
      (λ lines told order.
      let w : Going name lines all (view c.args.out.now) (view c.loop-found.out) c.loop-found.now left c.loop-found.next = c.loop-found.invariant.going lines told order in
      let a : Ahead name lines left c.loop-found.next e = ahead name lines left c.loop-found.next e (edits_left c.args.edits c.in-Some.found.behind) f.left w.low w.order in
      let body : List (List ℕ) = own name lines all (view c.args.out.now) (view c.loop-found.out) c.loop-found.now left c.loop-found.next w e a in
      let rest : List (List ℕ) = after name lines all (view c.args.out.now) (view c.loop-found.out) c.loop-found.now left c.loop-found.next w e a in
      part-copied name lines all (view c.args.out.now) (view c.loop-found.out) c.loop-found.now left c.loop-found.next w e a (view c.copy_within.new.out)
      (c.in_err-copied.ensures.part lines (c.loop-found.invariant.keeps.told ∙ told) w.low a.behind a.high (body ++ rest)));
  keeps = keeps-more _ _ _ c.loop-found.invariant.keeps c.in_err-copied.ensures.keeps;
  sink = sink_passes_both c.loop-found.invariant.sink c.in_err-copied.ensures.sink;
  rest = g.met.O.Sink.rest_both _ _ _ c.loop-found.invariant.rest c.in_err-copied.ensures.rest;
  cause =
      let view = g.O.Sink.view in
      let a = g.S.LineStore.seen c.args.store.now in
      let d = g.S.LineStore.seen c.copy_within.new.store in
      let fault = c.in_err-copied.field-0.0 in
      if-err-still (λ e. HasApplyCause e a d (view c.args.out.now) (view c.copy_within.new.out)) fault c.from_residual.result c.from_residual.ensures.1
      (apply-cause-more fault a (g.S.LineStore.seen c.loop-found.store) d (view c.args.out.now) (view c.loop-found.out) (view c.copy_within.new.out) c.loop-found.invariant.keeps c.loop-found.invariant.sink c.in_err-copied.ensures.cause);
}

pub returns-in_err-now : goal.returns-in_err-now
returns-in_err-now g c = record {
  received = if_ok_none _ _ c.from_residual-in_err-now.result c.from_residual-in_err-now.ensures.1;
  part =
      let view = g.O.Sink.view in
      let name = c.args.define.now in
      let left = edits_left c.args.edits c.loop-found.place in
      let f : IsFound c.args.edits c.loop-found.place c.in-Some.found = c.in-Some.ensures in
      let e : Edit = edit_at c.args.edits.text.now c.in-Some.found.edit in
      let all = change_edits c.args.edits.verdicts.now c.args.edits.side (change_of c.args.edits.text.now c.args.edits.change.now) in
      on-err _ ((lines : List (List ℕ)) → (g.S.LineStore.seen c.args.store.now).told ≡ Some lines → AreInOrder (length lines) 1 all → ReceivesPart (view c.args.out.now) (view c.put_block.new.out) (ifdef_text name lines all))
      (λ lines told order.
      let w : Going name lines all (view c.args.out.now) (view c.loop-found.out) c.loop-found.now left c.loop-found.next = c.loop-found.invariant.going lines told order in
      let a : Ahead name lines left c.loop-found.next e = ahead name lines left c.loop-found.next e (edits_left c.args.edits c.in-Some.found.behind) f.left w.low w.order in
      let within : block_end e.at left ≤ length lines + 1 = a.cut.within in
      let high : c.block_at-block.result.end ≤ length lines + 1 = omega (arith, c.block_at-block.ensures.end) in
      let body : List (List ℕ) = own name lines all (view c.args.out.now) (view c.loop-found.out) c.loop-found.now left c.loop-found.next w e a in
      let rest : List (List ℕ) = after name lines all (view c.args.out.now) (view c.loop-found.out) c.loop-found.now left c.loop-found.next w e a in
      let there = c.loop-found.invariant.keeps.told ∙ told in
      part-block name lines all (view c.args.out.now) (view c.loop-found.out) c.loop-found.now left c.loop-found.next w e a
      (view c.copy_within.new.out) c.in_ok-copied.copied (c.in_ok-copied.ensures.written lines there w.low a.behind a.high (body ++ rest))
      (view c.put_block.new.out)
      (part-same (view c.copy_within.new.out) (view c.put_block.new.out) c.in_ok-copied.copied.is_open
      (texts (closed name (lines_between lines e.at c.block_at-block.result.end) (block_added e.at left)) ++ rest) (body ++ rest)
      (ap (λ (k : ℕ). texts (closed name (lines_between lines e.at k) (block_added e.at left)) ++ rest) c.block_at-block.ensures.end)
      (c.in_err-now.ensures.part lines (c.in_ok-copied.ensures.keeps.told ∙ there) a.low high rest)));
  keeps = keeps-more _ _ _ (keeps-more _ _ _ c.loop-found.invariant.keeps c.in_ok-copied.ensures.keeps) c.in_err-now.ensures.keeps;
  sink = sink_passes_both (sink_passes_both c.loop-found.invariant.sink c.in_ok-copied.ensures.sink) c.in_err-now.ensures.sink;
  rest = g.met.O.Sink.rest_both _ _ _ (g.met.O.Sink.rest_both _ _ _ c.loop-found.invariant.rest c.in_ok-copied.ensures.rest) c.in_err-now.ensures.rest;
  cause =
      let view = g.O.Sink.view in
      let a = g.S.LineStore.seen c.args.store.now in
      let d = g.S.LineStore.seen c.put_block.new.store in
      let fault = c.in_err-now.field-0.0 in
      if-err-still (λ e. HasApplyCause e a d (view c.args.out.now) (view c.put_block.new.out)) fault c.from_residual-in_err-now.result c.from_residual-in_err-now.ensures.1
      (apply-cause-more fault a (g.S.LineStore.seen c.copy_within.new.store) d (view c.args.out.now) (view c.copy_within.new.out) (view c.put_block.new.out) (keeps-more _ _ _ c.loop-found.invariant.keeps c.in_ok-copied.ensures.keeps) (sink_passes_both c.loop-found.invariant.sink c.in_ok-copied.ensures.sink) c.in_err-now.ensures.cause);
}

pub returns : goal.returns
returns g c = record {
  received =
      let view = g.O.Sink.view in
      let name = c.args.define.now in
      let left = edits_left c.args.edits c.loop-found.place in
      let over : edits_left c.args.edits c.loop-found.place ≡ [] = c.in_default.ensures in
      let all = change_edits c.args.edits.verdicts.now c.args.edits.side (change_of c.args.edits.text.now c.args.edits.change.now) in
      if-ok-map c.copy_within-2.result
      (λ now. (lines : List (List ℕ)) → (g.S.LineStore.seen c.loop-found.store).told ≡ Some lines → 1 ≤ c.loop-found.next → c.loop-found.next ≤ c.count-count.result + 1 → c.count-count.result + 1 ≤ length lines + 1 → (more : List (List ℕ)) → Wrote (view c.loop-found.out) (view c.copy_within-2.new.out) c.loop-found.now now (lines_between lines c.loop-found.next (c.count-count.result + 1) ++ more) more)
      (λ now. (lines : List (List ℕ)) → (g.S.LineStore.seen c.args.store.now).told ≡ Some lines → AreInOrder (length lines) 1 all → Receives (view c.args.out.now) (view c.copy_within-2.new.out) (ifdef_text name lines all))
      (λ now h lines told order.
      let w : Going name lines all (view c.args.out.now) (view c.loop-found.out) c.loop-found.now left c.loop-found.next = c.loop-found.invariant.going lines told order in
      let high : c.loop-found.next ≤ length lines + 1 = w.high in
      let count : c.count-count.result ≡ length lines = c.count-count.ensures.is ∙ (c.count-count.ensures.told lines told).count in
      wrote-last name lines all (view c.args.out.now) (view c.loop-found.out) c.loop-found.now left c.loop-found.next w over c.count-count.result count (view c.copy_within-2.new.out) now
      (h lines (c.loop-found.invariant.keeps.told ∙ told) w.low (omega arith) (omega arith) []))
      c.copy_within-2.ensures.written;
  part =
      let view = g.O.Sink.view in
      let name = c.args.define.now in
      let left = edits_left c.args.edits c.loop-found.place in
      let over : edits_left c.args.edits c.loop-found.place ≡ [] = c.in_default.ensures in
      let all = change_edits c.args.edits.verdicts.now c.args.edits.side (change_of c.args.edits.text.now c.args.edits.change.now) in
      on-err-map c.copy_within-2.result
      ((lines : List (List ℕ)) → (g.S.LineStore.seen c.loop-found.store).told ≡ Some lines → 1 ≤ c.loop-found.next → c.loop-found.next ≤ c.count-count.result + 1 → c.count-count.result + 1 ≤ length lines + 1 → (more : List (List ℕ)) → ReceivesPart (view c.loop-found.out) (view c.copy_within-2.new.out) (join_behind c.loop-found.now.is_open (lines_between lines c.loop-found.next (c.count-count.result + 1) ++ more)))
      ((lines : List (List ℕ)) → (g.S.LineStore.seen c.args.store.now).told ≡ Some lines → AreInOrder (length lines) 1 all → ReceivesPart (view c.args.out.now) (view c.copy_within-2.new.out) (ifdef_text name lines all))
      (λ h lines told order.
      let w : Going name lines all (view c.args.out.now) (view c.loop-found.out) c.loop-found.now left c.loop-found.next = c.loop-found.invariant.going lines told order in
      let high : c.loop-found.next ≤ length lines + 1 = w.high in
      let count : c.count-count.result ≡ length lines = c.count-count.ensures.is ∙ (c.count-count.ensures.told lines told).count in
      part-last name lines all (view c.args.out.now) (view c.loop-found.out) c.loop-found.now left c.loop-found.next w over c.count-count.result count (view c.copy_within-2.new.out)
      (h lines (c.loop-found.invariant.keeps.told ∙ told) w.low (omega arith) (omega arith) []))
      c.copy_within-2.ensures.part;
  keeps = keeps-more _ _ _ c.loop-found.invariant.keeps c.copy_within-2.ensures.keeps;
  sink = sink_passes_both c.loop-found.invariant.sink c.copy_within-2.ensures.sink;
  rest = g.met.O.Sink.rest_both _ _ _ c.loop-found.invariant.rest c.copy_within-2.ensures.rest;
  cause =
      let view = g.O.Sink.view in
      let a = g.S.LineStore.seen c.args.store.now in
      let b = g.S.LineStore.seen c.loop-found.store in
      let d = g.S.LineStore.seen c.copy_within-2.new.store in
      let u = view c.args.out.now in
      let v = view c.loop-found.out in
      let w = view c.copy_within-2.new.out in
      IfErr-weaker c.copy_within-2.result (λ e. HasApplyCause e b d v w) (λ e. HasApplyCause e a d u w) (λ e cause. apply-cause-more e a b d u v w c.loop-found.invariant.keeps c.loop-found.invariant.sink cause) c.copy_within-2.ensures.cause;
}

pub put_block-requires-clause-edits : goal.put_block-requires-clause-edits
put_block-requires-clause-edits g c = c.requires

pub put_block-requires-clause-block : goal.put_block-requires-clause-block
put_block-requires-clause-block g c = c.block_at-block.ensures
