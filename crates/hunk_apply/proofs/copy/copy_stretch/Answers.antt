use Rattle.std.proofs.Common.{◌≡◌, ◌+◌, ◌-◌, ◌<◌, ◌≤◌, ◌++◌, ℕ, List, Some, length, take, drop, refl, sym, ap, subst, ◌∙◌, arith}
use Rattle.std.proofs.lemmas.Option.{same_Some}
use Rattle.std.proofs.lemmas.List.{length-take-le, length-drop}
use Rattle.line_list.specs.Join.{join, lacks_feed, ends_open}
use Rattle.outside.specs.SinkView.{sink_passes_none, ReceivesPart}
use Rattle.outside.proofs.Exits.{if_ok_none}
use Rattle.hunk_apply.specs.declared.ApplyFault.TheVariants.{Line, Write}
use Rattle.hunk_apply.specs.Faults.{HasApplyCause}
use Rattle.hunk_apply.specs.Written.{lines_between, join_behind, Wrote}
use Rattle.hunk_apply.proofs.Steps.{some-is, high-one}
use Rattle.hunk_apply.proofs.CopyLemmas.{between-take, meet-between}
use Rattle.hunk_apply.proofs.FaultLemmas.{on-err, if-err-still}
use Rattle.hunk_apply.proofs.WrittenLemmas.{part-none, wrote-range, part-range, part-same}
use Rattle.hunk_apply.proofs.copy.copy_stretch.Goals as goal

some-taken : (lines : List (List ℕ)) (q n most : ℕ) → 1 ≤ q → 1 ≤ n → n ≤ most → q + most ≤ length lines + 1 → 0 < length (take n (drop (q - 1) lines))
some-taken lines q n most low some few high =
    let left : length (drop (q - 1) lines) ≡ length lines - (q - 1) = length-drop (q - 1) lines in
    let taken : length (take n (drop (q - 1) lines)) ≡ n = length-take-le n (drop (q - 1) lines) (omega arith) in
    omega arith

pub returns-in_err-load : goal.returns-in_err-load
returns-in_err-load g c = record {
  some = if_ok_none _ _ c.from_residual.result c.from_residual.ensures.1;
  most = if_ok_none _ _ c.from_residual.result c.from_residual.ensures.1;
  written = if_ok_none _ _ c.from_residual.result c.from_residual.ensures.1;
  part = (
      on-err _ ((lines : List (List ℕ)) → (g.S.LineStore.seen c.args.store.now).told ≡ Some lines → (more : List (List ℕ)) → ReceivesPart (g.O.Sink.view c.args.out.now) (g.O.Sink.view c.args.out.now) (join_behind c.args.tail.is_open (lines_between lines c.args.q (c.args.q + c.args.most) ++ more)))
      (λ lines told more. part-none (g.O.Sink.view c.args.out.now) (join_behind c.args.tail.is_open (lines_between lines c.args.q (c.args.q + c.args.most) ++ more))));
  keeps = c.in_err-load.ensures.keeps;
  sink = sink_passes_none _;
  rest = g.met.O.Sink.rest_none _;
  cause = (
      let u = g.O.Sink.view c.args.out.now in
      if-err-still (λ e. HasApplyCause e (g.S.LineStore.seen c.args.store.now) (g.S.LineStore.seen c.load.new.self) u u) (Line c.in_err-load.field-0.0) c.from_residual.result c.from_residual.ensures.1 c.in_err-load.ensures.cause);
}

pub returns-in_err-now : goal.returns-in_err-now
returns-in_err-now g c = record {
  part = (
      let view = g.O.Sink.view in
      on-err _ ((lines : List (List ℕ)) → (g.S.LineStore.seen c.args.store.now).told ≡ Some lines → (more : List (List ℕ)) → ReceivesPart (view c.args.out.now) (view c.put_line.new.out) (join_behind c.args.tail.is_open (lines_between lines c.args.q (c.args.q + c.args.most) ++ more)))
      (λ lines told more.
      let n : ℕ = c.stretch-lent.result.count in
      let here : (g.S.LineStore.seen c.load.new.self).told ≡ Some lines = c.in_ok-load.ensures.keeps.told ∙ told in
      let count : (g.S.LineStore.seen c.args.store.now).count ≡ length lines = c.requires.counted lines told in
      let bytes : c.stretch-lent.result.bytes.now ≡ join (take n (drop (c.args.q - 1) lines)) = c.stretch-lent.ensures.bytes lines c.args.q here c.in_ok-load.ensures.held in
      let end : lacks_feed c.stretch-lent.result.bytes.now ≡ ends_open (take n (drop (c.args.q - 1) lines)) = c.stretch-lent.ensures.end lines c.args.q here c.in_ok-load.ensures.held in
      let left : List (List ℕ) = lines_between lines (c.args.q + n) (c.args.q + c.args.most) ++ more in
      part-same (view c.args.out.now) (view c.put_line.new.out) c.args.tail.is_open
      (take n (drop (c.args.q - 1) lines) ++ left) (lines_between lines c.args.q (c.args.q + c.args.most) ++ more)
      (ap (λ r. r ++ left) (sym (between-take lines c.args.q n c.requires.low)) ∙ meet-between lines c.args.q (c.args.q + n) (c.args.q + c.args.most) more (omega arith) (omega (arith, c.stretch-lent.ensures.high)))
      (part-range (view c.args.out.now) (view c.put_line.new.out) c.args.tail.is_open (take n (drop (c.args.q - 1) lines)) left c.stretch-lent.result.bytes.now
      (some-taken lines c.args.q n c.args.most c.requires.low c.stretch-lent.ensures.low c.stretch-lent.ensures.high (omega (arith, c.requires.high, count)))
      bytes end c.in_err-now.ensures.failed)));
  some = if_ok_none _ _ c.from_residual-in_err-now.result c.from_residual-in_err-now.ensures.1;
  most = if_ok_none _ _ c.from_residual-in_err-now.result c.from_residual-in_err-now.ensures.1;
  written = if_ok_none _ _ c.from_residual-in_err-now.result c.from_residual-in_err-now.ensures.1;
  keeps = c.in_ok-load.ensures.keeps;
  sink = c.in_err-now.ensures.call.passes;
  rest = c.in_err-now.ensures.rest;
  cause = if-err-still (λ e. HasApplyCause e (g.S.LineStore.seen c.args.store.now) (g.S.LineStore.seen c.load.new.self) (g.O.Sink.view c.args.out.now) (g.O.Sink.view c.put_line.new.out)) Write c.from_residual-in_err-now.result c.from_residual-in_err-now.ensures.1 (c.in_err-now.ensures.call.cause refl);
}

pub returns : goal.returns
returns g c = record {
  written = λ lines told more.
      let view = g.O.Sink.view in
      let n : ℕ = c.stretch-lent.result.count in
      let here : (g.S.LineStore.seen c.load.new.self).told ≡ Some lines = c.in_ok-load.ensures.keeps.told ∙ told in
      let count : (g.S.LineStore.seen c.args.store.now).count ≡ length lines = c.requires.counted lines told in
      let bytes : c.stretch-lent.result.bytes.now ≡ join (take n (drop (c.args.q - 1) lines)) = c.stretch-lent.ensures.bytes lines c.args.q here c.in_ok-load.ensures.held in
      let end : lacks_feed c.stretch-lent.result.bytes.now ≡ ends_open (take n (drop (c.args.q - 1) lines)) = c.stretch-lent.ensures.end lines c.args.q here c.in_ok-load.ensures.held in
      subst (λ ls. Wrote (view c.args.out.now) (view c.put_line.new.out) c.args.tail c.in_ok-now.now (ls ++ more) more) (sym (between-take lines c.args.q n c.requires.low))
      (wrote-range (view c.args.out.now) (view c.put_line.new.out) c.args.tail c.in_ok-now.now (take n (drop (c.args.q - 1) lines)) more c.stretch-lent.result.bytes.now
      (some-taken lines c.args.q n c.args.most c.requires.low c.stretch-lent.ensures.low c.stretch-lent.ensures.high (omega (arith, c.requires.high, count)))
      bytes end c.in_ok-now.ensures.received c.in_ok-now.ensures.end c.in_ok-now.ensures.nothing);
  some = c.stretch-lent.ensures.low;
  most = c.stretch-lent.ensures.high;
  part = tt;
  cause = tt;
  keeps = c.in_ok-load.ensures.keeps;
  sink = c.in_ok-now.ensures.call.passes;
  rest = c.in_ok-now.ensures.rest;
}

pub stretch-lent-requires-clause-room : goal.stretch-lent-requires-clause-room
stretch-lent-requires-clause-room g c = λ k held.
    let same : k ≡ c.args.q = same_Some k c.args.q (sym held ∙ c.in_ok-load.ensures.held) in
    subst (λ n. (1 ≤ n) × (n + c.args.most ≤ (g.S.LineStore.seen c.load.new.self).count + 1)) (sym same) (c.requires.low, subst (λ n. c.args.q + c.args.most ≤ n + 1) (sym c.in_ok-load.ensures.keeps.count) c.requires.high)

pub stretch-lent-requires-clause-some : goal.stretch-lent-requires-clause-some
stretch-lent-requires-clause-some g c = c.requires.some

pub stretch-lent-requires-clause-held : goal.stretch-lent-requires-clause-held
stretch-lent-requires-clause-held g c = some-is _ _ c.in_ok-load.ensures.held

pub load-requires-clause-low : goal.load-requires-clause-low
load-requires-clause-low g c = c.requires.low

pub load-requires-clause-high : goal.load-requires-clause-high
load-requires-clause-high g c = high-one c.args.q c.args.most (g.S.LineStore.seen c.args.store.now).count c.requires.some c.requires.high
