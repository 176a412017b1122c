use Rattle.std.proofs.Common.{◌≡◌, ◌≤◌, ◌+◌, ◌++◌, ℕ, List, Some, length, subst, arith}
use Rattle.line_store.proofs.StoreLemmas.{keeps-same}
use Rattle.outside.specs.SinkView.{ReceivesPart, sink_passes_none}
use Rattle.hunk_apply.specs.Written.{Wrote, lines_between, join_behind}
use Rattle.hunk_apply.proofs.FaultLemmas.{if-ok-map, on-err-map}
use Rattle.ifdef_out.proofs.writing.copy_within.Goals.{then-from-lt1-via-then-from-lt1, then-from-lt1-via-else-from-lt1+then-from-to, then-from-lt1-via-else-from-lt1+else-from-to+then-to-count}
use Rattle.ifdef_out.proofs.writing.copy_within.Goals as goal

pub returns : goal.returns
returns g c = record {
  written =
      let view = g.O.Sink.view in
      if-ok-map c.copy_lines.result
      (λ now. (lines : List (List ℕ)) → (g.S.LineStore.seen c.args.store.now).told ≡ Some lines → (more : List (List ℕ)) → Wrote (view c.args.out.now) (view c.copy_lines.new.out) c.args.tail now (lines_between lines c.args.from c.args.to ++ more) more)
      (λ now. (lines : List (List ℕ)) → (g.S.LineStore.seen c.args.store.now).told ≡ Some lines → 1 ≤ c.args.from → c.args.from ≤ c.args.to → c.args.to ≤ length lines + 1 → (more : List (List ℕ)) → Wrote (view c.args.out.now) (view c.copy_lines.new.out) c.args.tail now (lines_between lines c.args.from c.args.to ++ more) more)
      (λ now h lines told low order high. h lines told)
      c.copy_lines.ensures.written;
  part =
      let view = g.O.Sink.view in
      on-err-map c.copy_lines.result
      ((lines : List (List ℕ)) → (g.S.LineStore.seen c.args.store.now).told ≡ Some lines → (more : List (List ℕ)) → ReceivesPart (view c.args.out.now) (view c.copy_lines.new.out) (join_behind c.args.tail.is_open (lines_between lines c.args.from c.args.to ++ more)))
      ((lines : List (List ℕ)) → (g.S.LineStore.seen c.args.store.now).told ≡ Some lines → 1 ≤ c.args.from → c.args.from ≤ c.args.to → c.args.to ≤ length lines + 1 → (more : List (List ℕ)) → ReceivesPart (view c.args.out.now) (view c.copy_lines.new.out) (join_behind c.args.tail.is_open (lines_between lines c.args.from c.args.to ++ more)))
      (λ h lines told low order high. h lines told)
      c.copy_lines.ensures.part;
  keeps = c.copy_lines.ensures.keeps;
  sink = c.copy_lines.ensures.sink;
  rest = c.copy_lines.ensures.rest;
  cause = c.copy_lines.ensures.cause;
}

pub copy_lines-requires-clause-counted : goal.copy_lines-requires-clause-counted
copy_lines-requires-clause-counted g c = λ lines told. (c.count-count.ensures.told lines told).count

pub copy_lines-requires-clause-low : goal.copy_lines-requires-clause-low
copy_lines-requires-clause-low g c = c.if-from-lt1.false

pub returns-then-from-lt1 : goal.returns-then-from-lt1
returns-then-from-lt1 g c = record {
  written = λ lines told low order high more.
      let none : ⊥ = elim c.then-from-lt1.branch [
        | then-from-lt1-via-then-from-lt1 w ↦ omega (arith, w.if-from-lt1.true, low)
        | then-from-lt1-via-else-from-lt1+then-from-to w ↦ omega (arith, w.if-from-to.true, order)
        | then-from-lt1-via-else-from-lt1+else-from-to+then-to-count w ↦ omega (arith, w.if-to-count.true, high, (c.count-count.ensures.told lines told).count, c.count-count.ensures.is)
      ] in
      absurd none;
  part = tt;
  keeps = keeps-same (g.S.LineStore.seen c.args.store.now);
  sink = sink_passes_none (g.O.Sink.view c.args.out.now);
  rest = g.met.O.Sink.rest_none c.args.out.now;
  cause = tt;
}

pub copy_lines-requires-clause-order : goal.copy_lines-requires-clause-order
copy_lines-requires-clause-order g c = c.if-from-to.false

pub copy_lines-requires-clause-high : goal.copy_lines-requires-clause-high
copy_lines-requires-clause-high g c = subst (λ n. c.args.to ≤ n + 1) c.count-count.ensures.is c.if-to-count.false
