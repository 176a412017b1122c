use Rattle.std.proofs.Common.{◌≡◌, ◌+◌, ◌-◌, ◌≤◌, ◌++◌, ℕ, List, Some, refl, sym, subst, ◌∙◌, arith}
use Rattle.line_store.proofs.StoreLemmas.{keeps-same, keeps-more}
use Rattle.outside.specs.SinkView.{sink_passes_none, sink_passes_both, ReceivesPart}
use Rattle.outside.proofs.Exits.{if_ok_none}
use Rattle.hunk_apply.specs.Faults.{HasApplyCause}
use Rattle.hunk_apply.specs.Written.{lines_between, join_behind, Wrote}
use Rattle.hunk_apply.proofs.Steps.{le-both, high-rest, rest-some, some-less, fits-within}
use Rattle.hunk_apply.proofs.CopyLemmas.{none-between, meet-between}
use Rattle.hunk_apply.proofs.FaultLemmas.{on-err, if-err-still, apply-cause-more, counted-still}
use Rattle.hunk_apply.proofs.WrittenLemmas.{wrote-none, wrote-both, wrote-same, part-after, part-same}
use Rattle.hunk_apply.proofs.copy.copy_lines.Goals as goal

pub loop-q-init : goal.loop-q-init
loop-q-init g c = record {
  low = omega arith;
  high = c.requires.order;
  keeps = keeps-same _;
  sink = sink_passes_none _;
  rest = g.met.O.Sink.rest_none _;
  written = λ lines told more.
      let view = g.O.Sink.view in
      wrote-same (view c.args.out.now) (view c.args.out.now) c.args.tail c.args.tail more (lines_between lines c.args.from c.args.from ++ more) more more (sym (none-between lines c.args.from more)) refl
      (wrote-none (view c.args.out.now) c.args.tail more);
}

pub copy_some-requires-clause-counted : goal.copy_some-requires-clause-counted
copy_some-requires-clause-counted g c = counted-still _ _ c.requires.counted c.loop-q.invariant.keeps

pub loop-q-preserved : goal.loop-q-preserved
loop-q-preserved g c =
    let view = g.O.Sink.view in
    let next : ℕ = c.loop-q.q + c.in_ok-copied.copied.count in
    let far : c.loop-q.q + c.in_ok-copied.copied.count ≤ c.args.to = omega (arith, c.loop-q.invariant.high, c.in_ok-copied.ensures.most) in
    record {
      low = omega (arith, c.loop-q.invariant.low);
      high = far;
      keeps = keeps-more _ _ _ c.loop-q.invariant.keeps c.in_ok-copied.ensures.keeps;
      sink = sink_passes_both c.loop-q.invariant.sink c.in_ok-copied.ensures.sink;
      rest = g.met.O.Sink.rest_both _ _ _ c.loop-q.invariant.rest c.in_ok-copied.ensures.rest;
      written = λ lines told more.
          let left : List (List ℕ) = lines_between lines c.loop-q.q (c.loop-q.q + c.in_ok-copied.copied.count) ++ more in
          wrote-same (view c.args.out.now) (view c.copy_some.new.out) c.args.tail c.in_ok-copied.copied.tail
          (lines_between lines c.args.from c.loop-q.q ++ left) (lines_between lines c.args.from (c.loop-q.q + c.in_ok-copied.copied.count) ++ more) more more
          (meet-between lines c.args.from c.loop-q.q (c.loop-q.q + c.in_ok-copied.copied.count) more c.loop-q.invariant.low (omega arith)) refl
          (wrote-both (view c.args.out.now) (view c.loop-q.out) (view c.copy_some.new.out) c.args.tail c.loop-q.now c.in_ok-copied.copied.tail
          (lines_between lines c.args.from c.loop-q.q ++ left) left more
          (c.loop-q.invariant.written lines told left)
          (c.in_ok-copied.ensures.written lines (c.loop-q.invariant.keeps.told ∙ told) more));
    }

pub returns-in_err-copied : goal.returns-in_err-copied
returns-in_err-copied g c = record {
  part = (
      let view = g.O.Sink.view in
      on-err _ ((lines : List (List ℕ)) → (g.S.LineStore.seen c.args.store.now).told ≡ Some lines → (more : List (List ℕ)) → ReceivesPart (view c.args.out.now) (view c.copy_some.new.out) (join_behind c.args.tail.is_open (lines_between lines c.args.from c.args.to ++ more)))
      (λ lines told more.
      let to : c.loop-q.q + (c.args.to - c.loop-q.q) ≡ c.args.to = omega (arith, c.loop-q.invariant.high) in
      let left : List (List ℕ) = lines_between lines c.loop-q.q c.args.to ++ more in
      part-same (view c.args.out.now) (view c.copy_some.new.out) c.args.tail.is_open
      (lines_between lines c.args.from c.loop-q.q ++ left) (lines_between lines c.args.from c.args.to ++ more)
      (meet-between lines c.args.from c.loop-q.q c.args.to more c.loop-q.invariant.low c.loop-q.invariant.high)
      (part-after (view c.args.out.now) (view c.loop-q.out) (view c.copy_some.new.out) c.args.tail c.loop-q.now
      (lines_between lines c.args.from c.loop-q.q ++ left) left
      (c.loop-q.invariant.written lines told left)
      (subst (λ e. ReceivesPart (view c.loop-q.out) (view c.copy_some.new.out) (join_behind c.loop-q.now.is_open (lines_between lines c.loop-q.q e ++ more))) to
      (c.in_err-copied.ensures.part lines (c.loop-q.invariant.keeps.told ∙ told) more)))));
  written = if_ok_none _ _ c.from_residual.result c.from_residual.ensures.1;
  keeps = keeps-more _ _ _ c.loop-q.invariant.keeps c.in_err-copied.ensures.keeps;
  sink = sink_passes_both c.loop-q.invariant.sink c.in_err-copied.ensures.sink;
  rest = g.met.O.Sink.rest_both _ _ _ c.loop-q.invariant.rest c.in_err-copied.ensures.rest;
  cause = (
      let a = g.S.LineStore.seen c.args.store.now in
      let b = g.S.LineStore.seen c.loop-q.store in
      let d = g.S.LineStore.seen c.copy_some.new.store in
      let u = g.O.Sink.view c.args.out.now in
      let v = g.O.Sink.view c.loop-q.out in
      let w = g.O.Sink.view c.copy_some.new.out in
      let fault = c.in_err-copied.field-0.0 in
      if-err-still (λ e. HasApplyCause e a d u w) fault c.from_residual.result c.from_residual.ensures.1 (apply-cause-more fault a b d u v w c.loop-q.invariant.keeps c.loop-q.invariant.sink c.in_err-copied.ensures.cause));
}

pub returns : goal.returns
returns g c = record {
  written = λ lines told more.
      let there : c.loop-q.q ≡ c.args.to = omega (arith, c.loop-q.invariant.high) in
      subst (λ q. Wrote (g.O.Sink.view c.args.out.now) (g.O.Sink.view c.loop-q.out) c.args.tail c.loop-q.now (lines_between lines c.args.from q ++ more) more) there (c.loop-q.invariant.written lines told more);
  part = tt;
  cause = tt;
  keeps = c.loop-q.invariant.keeps;
  sink = c.loop-q.invariant.sink;
  rest = c.loop-q.invariant.rest;
}

pub loop-q-smaller : goal.loop-q-smaller
loop-q-smaller g c = some-less c.args.to c.loop-q.q c.in_ok-copied.copied.count c.in_ok-copied.ensures.some c.in_ok-copied.ensures.most

pub overflow_add-q : goal.overflow_add-q
overflow_add-q g c = fits-within c.loop-q.q c.in_ok-copied.copied.count c.args.to c.loop-q-test.true c.in_ok-copied.ensures.most c.ranges.to

pub copy_some-requires-clause-some : goal.copy_some-requires-clause-some
copy_some-requires-clause-some g c = rest-some c.loop-q.q c.args.to c.loop-q-test.true

pub copy_some-requires-clause-low : goal.copy_some-requires-clause-low
copy_some-requires-clause-low g c = le-both 1 c.args.from c.loop-q.q c.requires.low c.loop-q.invariant.low

pub copy_some-requires-clause-high : goal.copy_some-requires-clause-high
copy_some-requires-clause-high g c = high-rest c.loop-q.q c.args.to (g.S.LineStore.seen c.args.store.now).count (g.S.LineStore.seen c.loop-q.store).count c.loop-q-test.true c.loop-q.invariant.keeps.count c.requires.high
