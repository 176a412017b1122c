use Rattle.std.proofs.Common.{◌≡◌, ◌+◌, ◌≤◌, ◌++◌, ℕ, List, Some, length, take, ◌∙◌, refl, sym, subst, arith}
use Rattle.std.proofs.lemmas.List.{length-take-le}
use Rattle.std.proofs.lemmas.Result.{IfErr-weaker}
use Rattle.line_store.proofs.StoreLemmas.{keeps-more}
use Rattle.outside.specs.SinkView.{sink_passes_none, ReceivesPart}
use Rattle.outside.proofs.Exits.{if_ok_none}
use Rattle.hunk_apply.specs.declared.ApplyFault.TheVariants.{Line, Write}
use Rattle.hunk_apply.specs.Faults.{HasApplyCause}
use Rattle.hunk_apply.specs.Gathering.{Gathers}
use Rattle.hunk_apply.specs.Written.{Wrote, lines_between, join_behind}
use Rattle.hunk_apply.proofs.CopyLemmas.{meet-between}
use Rattle.hunk_apply.proofs.FaultLemmas.{on-err, on-err-map, if-err-still, apply-cause-more, counted-still, if-ok-map}
use Rattle.hunk_apply.proofs.Gathered.{some-between}
use Rattle.hunk_apply.proofs.WrittenLemmas.{part-none, wrote-range, part-range, part-same}
use Rattle.hunk_apply.proofs.copy.copy_some.Goals as goal

pub copy_stretch-requires-clause-counted : goal.copy_stretch-requires-clause-counted
copy_stretch-requires-clause-counted g c = counted-still _ _ c.requires.counted c.in_ok-gathered.ensures.keeps

pub returns-in_err-gathered : goal.returns-in_err-gathered
returns-in_err-gathered g c = record {
  some = if_ok_none _ _ c.from_residual.result c.from_residual.ensures.1;
  most = if_ok_none _ _ c.from_residual.result c.from_residual.ensures.1;
  written = if_ok_none _ _ c.from_residual.result c.from_residual.ensures.1;
  part = (
      on-err _ ((lines : List (List ℕ)) → (g.S.LineStore.seen c.args.store.now).told ≡ Some lines → (more : List (List ℕ)) → ReceivesPart (g.O.Sink.view c.args.out.now) (g.O.Sink.view c.args.out.now) (join_behind c.args.tail.is_open (lines_between lines c.args.q (c.args.q + c.args.most) ++ more)))
      (λ lines told more. part-none (g.O.Sink.view c.args.out.now) (join_behind c.args.tail.is_open (lines_between lines c.args.q (c.args.q + c.args.most) ++ more))));
  keeps = c.in_err-gathered.ensures.keeps;
  sink = sink_passes_none _;
  rest = g.met.O.Sink.rest_none _;
  cause = (
      let u = g.O.Sink.view c.args.out.now in
      if-err-still (λ e. HasApplyCause e (g.S.LineStore.seen c.args.store.now) (g.S.LineStore.seen c.gather_lines.new.store) u u) (Line c.in_err-gathered.field-0.0) c.from_residual.result c.from_residual.ensures.1 c.in_err-gathered.ensures.cause);
}

pub returns-then-gathered-eq0 : goal.returns-then-gathered-eq0
returns-then-gathered-eq0 g c = record {
  part = (
      let view = g.O.Sink.view in
      on-err-map _
      ((lines : List (List ℕ)) → (g.S.LineStore.seen c.gather_lines.new.store).told ≡ Some lines → (more : List (List ℕ)) → ReceivesPart (view c.args.out.now) (view c.copy_stretch.new.out) (join_behind c.args.tail.is_open (lines_between lines c.args.q (c.args.q + c.args.most) ++ more)))
      ((lines : List (List ℕ)) → (g.S.LineStore.seen c.args.store.now).told ≡ Some lines → (more : List (List ℕ)) → ReceivesPart (view c.args.out.now) (view c.copy_stretch.new.out) (join_behind c.args.tail.is_open (lines_between lines c.args.q (c.args.q + c.args.most) ++ more)))
      (λ part lines told more. part lines (c.in_ok-gathered.ensures.keeps.told ∙ told) more) c.copy_stretch.ensures.part);
  some = c.copy_stretch.ensures.some;
  most = c.copy_stretch.ensures.most;
  written = (
      let view = g.O.Sink.view in
      if-ok-map c.copy_stretch.result
      (λ copied. (lines : List (List ℕ)) → (g.S.LineStore.seen c.gather_lines.new.store).told ≡ Some lines → (more : List (List ℕ)) → Wrote (view c.args.out.now) (view c.copy_stretch.new.out) c.args.tail copied.tail (lines_between lines c.args.q (c.args.q + copied.count) ++ more) more)
      (λ copied. (lines : List (List ℕ)) → (g.S.LineStore.seen c.args.store.now).told ≡ Some lines → (more : List (List ℕ)) → Wrote (view c.args.out.now) (view c.copy_stretch.new.out) c.args.tail copied.tail (lines_between lines c.args.q (c.args.q + copied.count) ++ more) more)
      (λ copied written lines told more. written lines (c.in_ok-gathered.ensures.keeps.told ∙ told) more) c.copy_stretch.ensures.written);
  keeps = keeps-more _ _ _ c.in_ok-gathered.ensures.keeps c.copy_stretch.ensures.keeps;
  sink = c.copy_stretch.ensures.sink;
  rest = c.copy_stretch.ensures.rest;
  cause = (
      let a = g.S.LineStore.seen c.args.store.now in
      let b = g.S.LineStore.seen c.gather_lines.new.store in
      let d = g.S.LineStore.seen c.copy_stretch.new.store in
      let u = g.O.Sink.view c.args.out.now in
      let w = g.O.Sink.view c.copy_stretch.new.out in
      IfErr-weaker c.copy_stretch.result _ _ (λ e. apply-cause-more e a b d u u w c.in_ok-gathered.ensures.keeps (sink_passes_none u)) c.copy_stretch.ensures.cause);
}

pub returns-in_err-now : goal.returns-in_err-now
returns-in_err-now g c = record {
  part = (
      let view = g.O.Sink.view in
      on-err _ ((lines : List (List ℕ)) → (g.S.LineStore.seen c.args.store.now).told ≡ Some lines → (more : List (List ℕ)) → ReceivesPart (view c.args.out.now) (view c.put_line.new.out) (join_behind c.args.tail.is_open (lines_between lines c.args.q (c.args.q + c.args.most) ++ more)))
      (λ lines told more.
      let n : ℕ = c.in_ok-gathered.gathered.count in
      let bytes : List ℕ = take c.in_ok-gathered.gathered.bytes c.gather_lines.new.block in
      let some : 1 ≤ n = omega (arith, c.if-gathered-eq0.false) in
      let count : (g.S.LineStore.seen c.args.store.now).count ≡ length lines = c.requires.counted lines told in
      let gathers : Gathers lines c.args.q n bytes = c.in_ok-gathered.ensures.lines lines told in
      let left : List (List ℕ) = lines_between lines (c.args.q + n) (c.args.q + c.args.most) ++ more in
      part-same (view c.args.out.now) (view c.put_line.new.out) c.args.tail.is_open
      (lines_between lines c.args.q (c.args.q + n) ++ left) (lines_between lines c.args.q (c.args.q + c.args.most) ++ more)
      (meet-between lines c.args.q (c.args.q + n) (c.args.q + c.args.most) more (omega arith) (omega (arith, c.in_ok-gathered.ensures.most)))
      (part-range (view c.args.out.now) (view c.put_line.new.out) c.args.tail.is_open (lines_between lines c.args.q (c.args.q + n)) left bytes
      (some-between lines c.args.q n c.requires.low some (omega (arith, c.requires.high, count, c.in_ok-gathered.ensures.most)))
      gathers.is (gathers.end (omega (arith, some)) ∙ sym gathers.shut) c.in_err-now.ensures.failed)));
  some = if_ok_none _ _ c.from_residual-in_err-now.result c.from_residual-in_err-now.ensures.1;
  most = if_ok_none _ _ c.from_residual-in_err-now.result c.from_residual-in_err-now.ensures.1;
  written = if_ok_none _ _ c.from_residual-in_err-now.result c.from_residual-in_err-now.ensures.1;
  keeps = c.in_ok-gathered.ensures.keeps;
  sink = c.in_err-now.ensures.call.passes;
  rest = c.in_err-now.ensures.rest;
  cause = if-err-still (λ e. HasApplyCause e (g.S.LineStore.seen c.args.store.now) (g.S.LineStore.seen c.gather_lines.new.store) (g.O.Sink.view c.args.out.now) (g.O.Sink.view c.put_line.new.out)) Write c.from_residual-in_err-now.result c.from_residual-in_err-now.ensures.1 (c.in_err-now.ensures.call.cause refl);
}

pub returns : goal.returns
returns g c = record {
  written = λ lines told more.
      let view = g.O.Sink.view in
      let n : ℕ = c.in_ok-gathered.gathered.count in
      let bytes : List ℕ = take c.in_ok-gathered.gathered.bytes c.gather_lines.new.block in
      let some : 1 ≤ n = omega (arith, c.if-gathered-eq0.false) in
      let count : (g.S.LineStore.seen c.args.store.now).count ≡ length lines = c.requires.counted lines told in
      let gathers : Gathers lines c.args.q n bytes = c.in_ok-gathered.ensures.lines lines told in
      wrote-range (view c.args.out.now) (view c.put_line.new.out) c.args.tail c.in_ok-now.now (lines_between lines c.args.q (c.args.q + n)) more bytes
      (some-between lines c.args.q n c.requires.low some (omega (arith, c.requires.high, count, c.in_ok-gathered.ensures.most)))
      gathers.is (gathers.end (omega (arith, some)) ∙ sym gathers.shut) c.in_ok-now.ensures.received c.in_ok-now.ensures.end c.in_ok-now.ensures.nothing;
  some = omega (arith, c.if-gathered-eq0.false);
  most = c.in_ok-gathered.ensures.most;
  part = tt;
  cause = tt;
  keeps = c.in_ok-gathered.ensures.keeps;
  sink = c.in_ok-now.ensures.call.passes;
  rest = c.in_ok-now.ensures.rest;
}

pub slice_bounds-put_line-end : goal.slice_bounds-put_line-end
slice_bounds-put_line-end g c = sym (length-take-le c.in_ok-gathered.gathered.bytes c.gather_lines.new.block c.in_ok-gathered.ensures.room)

pub slice_bounds-block-end : goal.slice_bounds-block-end
slice_bounds-block-end g c = c.in_ok-gathered.ensures.room

pub copy_stretch-requires-clause-some : goal.copy_stretch-requires-clause-some
copy_stretch-requires-clause-some g c = c.requires.some

pub copy_stretch-requires-clause-low : goal.copy_stretch-requires-clause-low
copy_stretch-requires-clause-low g c = c.requires.low

pub copy_stretch-requires-clause-high : goal.copy_stretch-requires-clause-high
copy_stretch-requires-clause-high g c = subst (λ n. c.args.q + c.args.most ≤ n + 1) (sym c.in_ok-gathered.ensures.keeps.count) c.requires.high

pub gather_lines-requires-clause-counted : goal.gather_lines-requires-clause-counted
gather_lines-requires-clause-counted g c = c.requires.counted

pub gather_lines-requires-clause-some : goal.gather_lines-requires-clause-some
gather_lines-requires-clause-some g c = c.requires.some

pub gather_lines-requires-clause-low : goal.gather_lines-requires-clause-low
gather_lines-requires-clause-low g c = c.requires.low

pub gather_lines-requires-clause-high : goal.gather_lines-requires-clause-high
gather_lines-requires-clause-high g c = c.requires.high
