use Rattle.std.proofs.Common.{◌≡◌, ◌+◌, ◌-◌, ◌≤◌, ◌<◌, ◌++◌, ◌^◌, ℕ, List, [], Some, length, take, drop, refl, sym, ap, subst, ◌∙◌, arith}
use Rattle.line_store.proofs.StoreLemmas.{keeps-same, keeps-more}
use Rattle.outside.specs.SinkView.{sink_passes_none, sink_passes_both, ReceivesPart}
use Rattle.outside.proofs.Exits.{if_ok_none}
use Rattle.std.specs.List.{All}
use Rattle.hunk_core.specs.Turned.{LiesIn}
use Rattle.ed_form.specs.declared.script.EdEdit.{EdEdit}
use Rattle.ed_form.specs.PlainEdit.{edits_of, lines_of}
use Rattle.hunk_apply.specs.Script.{scripted}
use Rattle.hunk_apply.specs.Written.{lines_between, join_behind}
use Rattle.hunk_apply.proofs.Steps.{next-some, one-more, one-back, begin-high, back-one, back-in, back-less, fits-count}
use Rattle.hunk_apply.proofs.FaultLemmas.{on-err, counted-still, if-err-still, apply-cause-more}
use Rattle.hunk_apply.proofs.ScriptLemmas.{EndWithin, ends-within, begin-all, edit-begins, edit-order, edit-within, next-begin, edit-left, scripted-all, lines-left}
use Rattle.hunk_apply.proofs.WrittenLemmas.{wrote-none, wrote-both, wrote-same, part-after, part-same}
use Rattle.hunk_apply.specs.Faults.{HasApplyCause}
use Rattle.hunk_apply.proofs.script.carry_out.Goals as goal

pub loop-k-init : goal.loop-k-init
loop-k-init g c =
    let view = g.O.Sink.view in
    let text = c.args.text.now in
    let items = c.args.script.now.edits.items in
    let len : c.len-k.result ≡ length items = c.len-k.ensures ∙ c.args.script.now.edits.ok.0 in
    record {
      keeps = keeps-same _;
      sink = sink_passes_none _;
      rest = g.met.O.Sink.rest_none _;
      low = omega arith;
      high = omega arith;
      begin = begin-all text items c.len-k.result (2 ^ 32) c.requires.lawful.edits;
      written = λ lines told.
          wrote-same (view c.args.out.now) (view c.args.out.now) c.args.tail c.args.tail
          (scripted lines (edits_of text items)) (scripted lines (edits_of text items)) (scripted lines (edits_of text items)) (scripted lines (edits_of text (take c.len-k.result items)))
          refl (scripted-all text lines items c.len-k.result (omega arith))
          (wrote-none (view c.args.out.now) c.args.tail (scripted lines (edits_of text items)));
    }

pub put_edit-requires-clause-counted : goal.put_edit-requires-clause-counted
put_edit-requires-clause-counted g c = counted-still _ _ c.requires.counted c.loop-k.invariant.keeps

pub put_edit-requires-clause-order : goal.put_edit-requires-clause-order
put_edit-requires-clause-order g c =
    let text = c.args.text.now in
    let items = c.args.script.now.edits.items in
    let edit = c.index-edit.result.now in
    let len : c.len-k.result ≡ length items = c.len-k.ensures ∙ c.args.script.now.edits.ok.0 in
    let last : c.loop-k.k ≡ c.loop-k.k - 1 + 1 = back-one c.loop-k.k c.loop-k-test.true in
    let lt : c.loop-k.k - 1 < length items = back-in c.loop-k.k c.len-k.result (length items) c.loop-k-test.true c.loop-k.auto.k len in
    edit-begins c.args.text.now c.args.script.now.edits.items (2 ^ 32) c.loop-k.k (c.loop-k.k - 1) c.index-edit.result.now c.requires.lawful.edits lt c.index-edit.ensures last c.loop-k.next c.loop-k.invariant.begin

pub put_edit-requires-clause-high : goal.put_edit-requires-clause-high
put_edit-requires-clause-high g c =
    let text = c.args.text.now in
    let items = c.args.script.now.edits.items in
    let edit = c.index-edit.result.now in
    let len : c.len-k.result ≡ length items = c.len-k.ensures ∙ c.args.script.now.edits.ok.0 in
    let last : c.loop-k.k ≡ c.loop-k.k - 1 + 1 = back-one c.loop-k.k c.loop-k-test.true in
    let lt : c.loop-k.k - 1 < length items = back-in c.loop-k.k c.len-k.result (length items) c.loop-k-test.true c.loop-k.auto.k len in
    let order : edit.first ≤ edit.last + 1 = edit-order c.args.text.now c.args.script.now.edits.items (2 ^ 32) c.loop-k.k (c.loop-k.k - 1) c.index-edit.result.now c.requires.lawful.edits lt c.index-edit.ensures last in
    let same : (g.S.LineStore.seen c.loop-k.store).count ≡ (g.S.LineStore.seen c.args.store.now).count = c.loop-k.invariant.keeps.count in
    let within : edit.last ≤ (g.S.LineStore.seen c.args.store.now).count = edit-within c.args.text.now c.args.script.now.edits.items (2 ^ 32) c.loop-k.k (c.loop-k.k - 1) c.index-edit.result.now c.requires.lawful.edits lt c.index-edit.ensures last (g.S.LineStore.seen c.args.store.now).count (ends-within (g.S.LineStore.seen c.args.store.now).count (edits_of text items) c.requires.within) in
    begin-high edit.first edit.last (g.S.LineStore.seen c.args.store.now).count (g.S.LineStore.seen c.loop-k.store).count order within same

pub put_edit-requires-clause-lies : goal.put_edit-requires-clause-lies
put_edit-requires-clause-lies g c =
    let text = c.args.text.now in
    let items = c.args.script.now.edits.items in
    let edit = c.index-edit.result.now in
    let len : c.len-k.result ≡ length items = c.len-k.ensures ∙ c.args.script.now.edits.ok.0 in
    let last : c.loop-k.k ≡ c.loop-k.k - 1 + 1 = back-one c.loop-k.k c.loop-k-test.true in
    let lt : c.loop-k.k - 1 < length items = back-in c.loop-k.k c.len-k.result (length items) c.loop-k-test.true c.loop-k.auto.k len in
    subst (λ (e : EdEdit). All (LiesIn text) e.added.items) (sym c.index-edit.ensures) (c.requires.lawful.within (c.loop-k.k - 1) edit lt)

pub loop-k-preserved : goal.loop-k-preserved
loop-k-preserved g c =
    let view = g.O.Sink.view in
    let text = c.args.text.now in
    let items = c.args.script.now.edits.items in
    let edit = c.index-edit.result.now in
    let len : c.len-k.result ≡ length items = c.len-k.ensures ∙ c.args.script.now.edits.ok.0 in
    let last : c.loop-k.k ≡ c.loop-k.k - 1 + 1 = back-one c.loop-k.k c.loop-k-test.true in
    let lt : c.loop-k.k - 1 < length items = back-in c.loop-k.k c.len-k.result (length items) c.loop-k-test.true c.loop-k.auto.k len in
    let ends : EndWithin (g.S.LineStore.seen c.args.store.now).count (edits_of text items) = ends-within (g.S.LineStore.seen c.args.store.now).count (edits_of text items) c.requires.within in
    record {
      keeps = keeps-more _ _ _ c.loop-k.invariant.keeps c.in_ok-now.ensures.keeps;
      sink = sink_passes_both c.loop-k.invariant.sink c.in_ok-now.ensures.sink;
      rest = g.met.O.Sink.rest_both _ _ _ c.loop-k.invariant.rest c.in_ok-now.ensures.rest;
      low = next-some edit.last;
      high = (let within : edit.last ≤ (g.S.LineStore.seen c.args.store.now).count = edit-within c.args.text.now c.args.script.now.edits.items (2 ^ 32) c.loop-k.k (c.loop-k.k - 1) c.index-edit.result.now c.requires.lawful.edits lt c.index-edit.ensures last (g.S.LineStore.seen c.args.store.now).count ends in one-more edit.last (g.S.LineStore.seen c.args.store.now).count within);
      begin = next-begin c.args.text.now c.args.script.now.edits.items (2 ^ 32) c.loop-k.k (c.loop-k.k - 1) c.index-edit.result.now c.requires.lawful.edits lt c.index-edit.ensures last;
      written = λ lines told.
          let count : (g.S.LineStore.seen c.args.store.now).count ≡ length lines = c.requires.counted lines told in
          let within : EndWithin (length lines) (edits_of text items) = subst (λ n. EndWithin n (edits_of text items)) count ends in
          let next : edit.last ≡ (edit.last + 1) - 1 = one-back edit.last in
          let rest : List (List ℕ) = drop edit.last (scripted lines (edits_of text (take (c.loop-k.k - 1) items))) in
          wrote-both (view c.args.out.now) (view c.loop-k.out) (view c.put_edit.new.out) c.args.tail c.loop-k.now c.in_ok-now.now
          (scripted lines (edits_of text items)) (drop (c.loop-k.next - 1) (scripted lines (edits_of text (take c.loop-k.k items)))) (drop ((edit.last + 1) - 1) (scripted lines (edits_of text (take (c.loop-k.k - 1) items))))
          (c.loop-k.invariant.written lines told)
          (wrote-same (view c.loop-k.out) (view c.put_edit.new.out) c.loop-k.now c.in_ok-now.now
          (lines_between lines c.loop-k.next edit.first ++ (lines_of text edit.added.items ++ rest)) (drop (c.loop-k.next - 1) (scripted lines (edits_of text (take c.loop-k.k items)))) rest (drop ((edit.last + 1) - 1) (scripted lines (edits_of text (take (c.loop-k.k - 1) items))))
          (edit-left c.args.text.now c.args.script.now.edits.items (2 ^ 32) c.loop-k.k (c.loop-k.k - 1) c.index-edit.result.now c.requires.lawful.edits lt c.index-edit.ensures last c.loop-k.next lines within c.loop-k.invariant.low c.loop-k.invariant.begin)
          (ap (λ n. drop n (scripted lines (edits_of text (take (c.loop-k.k - 1) items)))) next)
          (c.in_ok-now.ensures.written lines (c.loop-k.invariant.keeps.told ∙ told) rest));
    }

pub copy_lines-requires-clause-counted : goal.copy_lines-requires-clause-counted
copy_lines-requires-clause-counted g c = counted-still _ _ c.requires.counted c.loop-k.invariant.keeps

pub copy_lines-requires-clause-high : goal.copy_lines-requires-clause-high
copy_lines-requires-clause-high g c =
    let same : (g.S.LineStore.seen c.loop-k.store).count ≡ (g.S.LineStore.seen c.args.store.now).count = c.loop-k.invariant.keeps.count in
    let is : c.count-count.result ≡ (g.S.LineStore.seen c.args.store.now).count = c.count-count.ensures.is in
    omega arith

pub copy_lines-requires-clause-order : goal.copy_lines-requires-clause-order
copy_lines-requires-clause-order g c =
    let is : c.count-count.result ≡ (g.S.LineStore.seen c.args.store.now).count = c.count-count.ensures.is in
    let high : c.loop-k.next ≤ (g.S.LineStore.seen c.args.store.now).count + 1 = c.loop-k.invariant.high in
    omega arith

pub returns-in_err-now : goal.returns-in_err-now
returns-in_err-now g c = record {
  part = (
      let view = g.O.Sink.view in
      let text = c.args.text.now in
      let items = c.args.script.now.edits.items in
      let edit = c.index-edit.result.now in
      let len : c.len-k.result ≡ length items = c.len-k.ensures ∙ c.args.script.now.edits.ok.0 in
      let last : c.loop-k.k ≡ c.loop-k.k - 1 + 1 = back-one c.loop-k.k c.loop-k-test.true in
      let lt : c.loop-k.k - 1 < length items = back-in c.loop-k.k c.len-k.result (length items) c.loop-k-test.true c.loop-k.auto.k len in
      on-err _ ((lines : List (List ℕ)) → (g.S.LineStore.seen c.args.store.now).told ≡ Some lines → ReceivesPart (view c.args.out.now) (view c.put_edit.new.out) (join_behind c.args.tail.is_open (scripted lines (edits_of text items))))
      (λ lines told.
      let count : (g.S.LineStore.seen c.args.store.now).count ≡ length lines = c.requires.counted lines told in
      let within : EndWithin (length lines) (edits_of text items) = subst (λ n. EndWithin n (edits_of text items)) count (ends-within (g.S.LineStore.seen c.args.store.now).count (edits_of text items) c.requires.within) in
      let rest : List (List ℕ) = drop edit.last (scripted lines (edits_of text (take (c.loop-k.k - 1) items))) in
      part-after (view c.args.out.now) (view c.loop-k.out) (view c.put_edit.new.out) c.args.tail c.loop-k.now
      (scripted lines (edits_of text items)) (drop (c.loop-k.next - 1) (scripted lines (edits_of text (take c.loop-k.k items))))
      (c.loop-k.invariant.written lines told)
      (part-same (view c.loop-k.out) (view c.put_edit.new.out) c.loop-k.now.is_open
      (lines_between lines c.loop-k.next edit.first ++ (lines_of text edit.added.items ++ rest)) (drop (c.loop-k.next - 1) (scripted lines (edits_of text (take c.loop-k.k items))))
      (edit-left c.args.text.now c.args.script.now.edits.items (2 ^ 32) c.loop-k.k (c.loop-k.k - 1) c.index-edit.result.now c.requires.lawful.edits lt c.index-edit.ensures last c.loop-k.next lines within c.loop-k.invariant.low c.loop-k.invariant.begin)
      (c.in_err-now.ensures.part lines (c.loop-k.invariant.keeps.told ∙ told) rest))));
  written = if_ok_none _ _ c.from_residual.result c.from_residual.ensures.1;
  keeps = keeps-more (g.S.LineStore.seen c.args.store.now) (g.S.LineStore.seen c.loop-k.store) (g.S.LineStore.seen c.put_edit.new.store) c.loop-k.invariant.keeps c.in_err-now.ensures.keeps;
  sink = sink_passes_both c.loop-k.invariant.sink c.in_err-now.ensures.sink;
  rest = g.met.O.Sink.rest_both _ _ _ c.loop-k.invariant.rest c.in_err-now.ensures.rest;
  cause = (
      let a = g.S.LineStore.seen c.args.store.now in
      let b = g.S.LineStore.seen c.loop-k.store in
      let d = g.S.LineStore.seen c.put_edit.new.store in
      let u = g.O.Sink.view c.args.out.now in
      let v = g.O.Sink.view c.loop-k.out in
      let w = g.O.Sink.view c.put_edit.new.out in
      let fault = c.in_err-now.field-0.0 in
      if-err-still (λ e. HasApplyCause e a d u w) fault c.from_residual.result c.from_residual.ensures.1 (apply-cause-more fault a b d u v w c.loop-k.invariant.keeps c.loop-k.invariant.sink c.in_err-now.ensures.cause));
}

pub returns-in_err-end : goal.returns-in_err-end
returns-in_err-end g c = record {
  part = (
      let view = g.O.Sink.view in
      let text = c.args.text.now in
      let items = c.args.script.now.edits.items in
      let n = c.count-count.result in
      on-err _ ((lines : List (List ℕ)) → (g.S.LineStore.seen c.args.store.now).told ≡ Some lines → ReceivesPart (view c.args.out.now) (view c.copy_lines.new.out) (join_behind c.args.tail.is_open (scripted lines (edits_of text items))))
      (λ lines told.
      let is : c.count-count.result ≡ (g.S.LineStore.seen c.args.store.now).count = c.count-count.ensures.is in
      let high : c.loop-k.next ≤ (g.S.LineStore.seen c.args.store.now).count + 1 = c.loop-k.invariant.high in
      let count : c.count-count.result ≡ length lines = c.count-count.ensures.is ∙ c.requires.counted lines told in
      let left : List (List ℕ) = drop (c.loop-k.next - 1) (scripted lines (edits_of text (take c.loop-k.k items))) in
      part-after (view c.args.out.now) (view c.loop-k.out) (view c.copy_lines.new.out) c.args.tail c.loop-k.now (scripted lines (edits_of text items)) left
      (c.loop-k.invariant.written lines told)
      (part-same (view c.loop-k.out) (view c.copy_lines.new.out) c.loop-k.now.is_open (lines_between lines c.loop-k.next (n + 1) ++ []) left
      (lines-left text lines items c.loop-k.k c.loop-k.next n (omega arith) (omega arith) count)
      (c.in_err-end.ensures.part lines (c.loop-k.invariant.keeps.told ∙ told) []))));
  written = if_ok_none _ _ c.from_residual-in_err-end.result c.from_residual-in_err-end.ensures.1;
  keeps = keeps-more (g.S.LineStore.seen c.args.store.now) (g.S.LineStore.seen c.loop-k.store) (g.S.LineStore.seen c.copy_lines.new.store) c.loop-k.invariant.keeps c.in_err-end.ensures.keeps;
  sink = sink_passes_both c.loop-k.invariant.sink c.in_err-end.ensures.sink;
  rest = g.met.O.Sink.rest_both _ _ _ c.loop-k.invariant.rest c.in_err-end.ensures.rest;
  cause = (
      let a = g.S.LineStore.seen c.args.store.now in
      let b = g.S.LineStore.seen c.loop-k.store in
      let d = g.S.LineStore.seen c.copy_lines.new.store in
      let u = g.O.Sink.view c.args.out.now in
      let v = g.O.Sink.view c.loop-k.out in
      let w = g.O.Sink.view c.copy_lines.new.out in
      let fault = c.in_err-end.field-0.0 in
      if-err-still (λ e. HasApplyCause e a d u w) fault c.from_residual-in_err-end.result c.from_residual-in_err-end.ensures.1 (apply-cause-more fault a b d u v w c.loop-k.invariant.keeps c.loop-k.invariant.sink c.in_err-end.ensures.cause));
}

pub returns : goal.returns
returns g c = record {
  written = λ lines told.
      let view = g.O.Sink.view in
      let text = c.args.text.now in
      let items = c.args.script.now.edits.items in
      let n = c.count-count.result in
      let is : c.count-count.result ≡ (g.S.LineStore.seen c.args.store.now).count = c.count-count.ensures.is in
      let high : c.loop-k.next ≤ (g.S.LineStore.seen c.args.store.now).count + 1 = c.loop-k.invariant.high in
      let count : c.count-count.result ≡ length lines = c.count-count.ensures.is ∙ c.requires.counted lines told in
      let left : List (List ℕ) = drop (c.loop-k.next - 1) (scripted lines (edits_of text (take c.loop-k.k items))) in
      wrote-both (view c.args.out.now) (view c.loop-k.out) (view c.copy_lines.new.out) c.args.tail c.loop-k.now c.in_ok-end.end (scripted lines (edits_of text items)) left []
      (c.loop-k.invariant.written lines told)
      (wrote-same (view c.loop-k.out) (view c.copy_lines.new.out) c.loop-k.now c.in_ok-end.end (lines_between lines c.loop-k.next (n + 1) ++ []) left [] []
      (lines-left text lines items c.loop-k.k c.loop-k.next n (omega arith) (omega arith) count) refl
      (c.in_ok-end.ensures.written lines (c.loop-k.invariant.keeps.told ∙ told) []));
  part = tt;
  cause = tt;
  keeps = keeps-more (g.S.LineStore.seen c.args.store.now) (g.S.LineStore.seen c.loop-k.store) (g.S.LineStore.seen c.copy_lines.new.store) c.loop-k.invariant.keeps c.in_ok-end.ensures.keeps;
  sink = sink_passes_both c.loop-k.invariant.sink c.in_ok-end.ensures.sink;
  rest = g.met.O.Sink.rest_both _ _ _ c.loop-k.invariant.rest c.in_ok-end.ensures.rest;
}

pub loop-k-smaller : goal.loop-k-smaller
loop-k-smaller g c = back-less c.loop-k.k c.loop-k-test.true

pub put_edit-requires-clause-low : goal.put_edit-requires-clause-low
put_edit-requires-clause-low g c = c.loop-k.invariant.low

pub copy_lines-requires-clause-low : goal.copy_lines-requires-clause-low
copy_lines-requires-clause-low g c = c.loop-k.invariant.low

pub index-edit-requires : goal.index-edit-requires
index-edit-requires g c = back-in c.loop-k.k c.len-k.result _ c.loop-k-test.true c.loop-k.auto.k c.len-k.ensures

pub overflow_add-count : goal.overflow_add-count
overflow_add-count g c = fits-count c.count-count.result c.count-count.ensures.most

pub overflow_step-k : goal.overflow_step-k
overflow_step-k g c = c.loop-k-test.true
