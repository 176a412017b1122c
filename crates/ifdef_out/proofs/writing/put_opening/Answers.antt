use Rattle.std.proofs.Common.{◌≡◌, ◌≤◌, ◌<◌, ◌+◌, ◌++◌, ℕ, List, ◌∷◌, Some, length, true, refl, sym, ap, ◌∙◌, arith}
use Rattle.line_store.proofs.StoreLemmas.{keeps-same}
use Rattle.outside.specs.SinkView.{sink_passes_both, ReceivesPart}
use Rattle.outside.proofs.Exits.{if_ok_none}
use Rattle.hunk_apply.specs.declared.ApplyFault.TheVariants.{Write}
use Rattle.hunk_apply.specs.Faults.{HasApplyCause}
use Rattle.hunk_apply.specs.Written.{lines_between, join_behind}
use Rattle.hunk_apply.proofs.FaultLemmas.{on-err, if-err-still, apply-cause-more}
use Rattle.hunk_apply.proofs.WrittenLemmas.{wrote-both, wrote-line, wrote-same, part-after, part-line, part-same}
use Rattle.ifdef_out.specs.Chain.{is_some_line}
use Rattle.ifdef_out.specs.Tagged.{else_line, else_mark, ifdef_line, ifndef_line, opening, texts}
use Rattle.ifdef_out.proofs.BlockLemmas.{no-lines, some-between}
use Rattle.ifdef_out.proofs.TaggedLemmas.{else-none, else-one, opening-some}
use Rattle.ifdef_out.proofs.writing.put_opening.Goals as goal

-- a block that drops nothing
without : (name : List ℕ) (lines : List (List ℕ)) (first end : ℕ) (added more : List (List ℕ)) → first ≡ end → ifdef_line name ∷ more ≡ texts (opening name (lines_between lines first end) added) ++ more
without name lines first end added more e = ap (λ ds. texts (opening name ds added) ++ more) (sym (ap (λ k. lines_between lines first k) (sym e) ∙ no-lines lines first))

-- a block that drops lines
with : (name : List ℕ) (lines : List (List ℕ)) (first end : ℕ) (added more : List (List ℕ)) → 1 ≤ first → first < end → end ≤ length lines + 1
    → ifndef_line name ∷ (lines_between lines first end ++ (texts (else_mark added) ++ more)) ≡ texts (opening name (lines_between lines first end) added) ++ more
with name lines first end added more low lt high = sym (opening-some name (lines_between lines first end) added more (some-between lines first end low lt high))

pub returns-in_err-end : goal.returns-in_err-end
returns-in_err-end g c = record {
  written = if_ok_none _ _ c.from_residual.result c.from_residual.ensures.1;
  part =
      let view = g.O.Sink.view in
      let name = c.args.define.now in
      let first = c.args.first in
      let end = c.args.block.end in
      on-err _ ((lines : List (List ℕ)) → (g.S.LineStore.seen c.args.store.now).told ≡ Some lines → 1 ≤ c.args.first → c.args.first ≤ c.args.block.end → c.args.block.end ≤ length lines + 1 → (added : List (List ℕ)) → c.args.block.is_adding ≡ is_some_line added → (more : List (List ℕ)) → ReceivesPart (view c.args.out.now) (view c.put_condition.new.out) (join_behind c.args.tail.is_open (texts (opening name (lines_between lines c.args.first c.args.block.end) added) ++ more)))
      (λ lines told low order high added is more.
      part-same (view c.args.out.now) (view c.put_condition.new.out) c.args.tail.is_open (ifdef_line name ∷ more) (texts (opening name (lines_between lines first end) added) ++ more)
      (without name lines first end added more (omega (arith, c.if-block-first.true)))
      (c.in_err-end.ensures.part more));
  keeps = keeps-same _;
  sink = c.in_err-end.ensures.call.passes;
  rest = c.in_err-end.ensures.rest;
  cause =
      let view = g.O.Sink.view in
      let a = g.S.LineStore.seen c.args.store.now in
      if-err-still (λ e. HasApplyCause e a a (view c.args.out.now) (view c.put_condition.new.out)) Write c.from_residual.result c.from_residual.ensures.1 (c.in_err-end.ensures.call.cause (refl {a = true}));
}

pub returns-then-block-first : goal.returns-then-block-first
returns-then-block-first g c = record {
  written = λ lines told low order high added is more.
      let view = g.O.Sink.view in
      let name = c.args.define.now in
      let first = c.args.first in
      let end = c.args.block.end in
      wrote-same (view c.args.out.now) (view c.put_condition.new.out) c.args.tail c.in_ok-end.end (ifdef_line name ∷ more) (texts (opening name (lines_between lines first end) added) ++ more) more more
      (without name lines first end added more (omega (arith, c.if-block-first.true))) refl
      (c.in_ok-end.ensures.written more);
  part = tt;
  keeps = keeps-same _;
  sink = c.in_ok-end.ensures.call.passes;
  rest = c.in_ok-end.ensures.rest;
  cause = tt;
}

pub returns-in_err-opened : goal.returns-in_err-opened
returns-in_err-opened g c = record {
  written = if_ok_none _ _ c.from_residual-in_err-opened.result c.from_residual-in_err-opened.ensures.1;
  part =
      let view = g.O.Sink.view in
      let name = c.args.define.now in
      let first = c.args.first in
      let end = c.args.block.end in
      on-err _ ((lines : List (List ℕ)) → (g.S.LineStore.seen c.args.store.now).told ≡ Some lines → 1 ≤ c.args.first → c.args.first ≤ c.args.block.end → c.args.block.end ≤ length lines + 1 → (added : List (List ℕ)) → c.args.block.is_adding ≡ is_some_line added → (more : List (List ℕ)) → ReceivesPart (view c.args.out.now) (view c.put_condition-2.new.out) (join_behind c.args.tail.is_open (texts (opening name (lines_between lines c.args.first c.args.block.end) added) ++ more)))
      (λ lines told low order high added is more.
      let rest : List (List ℕ) = lines_between lines first end ++ (texts (else_mark added) ++ more) in
      part-same (view c.args.out.now) (view c.put_condition-2.new.out) c.args.tail.is_open (ifndef_line name ∷ rest) (texts (opening name (lines_between lines first end) added) ++ more)
      (with name lines first end added more low c.if-block-first.false high)
      (c.in_err-opened.ensures.part rest));
  keeps = keeps-same _;
  sink = c.in_err-opened.ensures.call.passes;
  rest = c.in_err-opened.ensures.rest;
  cause =
      let view = g.O.Sink.view in
      let a = g.S.LineStore.seen c.args.store.now in
      if-err-still (λ e. HasApplyCause e a a (view c.args.out.now) (view c.put_condition-2.new.out)) Write c.from_residual-in_err-opened.result c.from_residual-in_err-opened.ensures.1 (c.in_err-opened.ensures.call.cause (refl {a = true}));
}

pub returns-in_err-dropped : goal.returns-in_err-dropped
returns-in_err-dropped g c = record {
  written = if_ok_none _ _ c.from_residual-in_err-dropped.result c.from_residual-in_err-dropped.ensures.1;
  part =
      let view = g.O.Sink.view in
      let name = c.args.define.now in
      let first = c.args.first in
      let end = c.args.block.end in
      on-err _ ((lines : List (List ℕ)) → (g.S.LineStore.seen c.args.store.now).told ≡ Some lines → 1 ≤ c.args.first → c.args.first ≤ c.args.block.end → c.args.block.end ≤ length lines + 1 → (added : List (List ℕ)) → c.args.block.is_adding ≡ is_some_line added → (more : List (List ℕ)) → ReceivesPart (view c.args.out.now) (view c.copy_within.new.out) (join_behind c.args.tail.is_open (texts (opening name (lines_between lines c.args.first c.args.block.end) added) ++ more)))
      (λ lines told low order high added is more.
      let last : List (List ℕ) = texts (else_mark added) ++ more in
      let rest : List (List ℕ) = lines_between lines first end ++ (texts (else_mark added) ++ more) in
      part-same (view c.args.out.now) (view c.copy_within.new.out) c.args.tail.is_open (ifndef_line name ∷ rest) (texts (opening name (lines_between lines first end) added) ++ more)
      (with name lines first end added more low c.if-block-first.false high)
      (part-after (view c.args.out.now) (view c.put_condition-2.new.out) (view c.copy_within.new.out) c.args.tail c.in_ok-opened.opened (ifndef_line name ∷ rest) rest
      (c.in_ok-opened.ensures.written rest)
      (c.in_err-dropped.ensures.part lines told low order high last)));
  keeps = c.in_err-dropped.ensures.keeps;
  sink = sink_passes_both c.in_ok-opened.ensures.call.passes c.in_err-dropped.ensures.sink;
  rest = g.met.O.Sink.rest_both _ _ _ c.in_ok-opened.ensures.rest c.in_err-dropped.ensures.rest;
  cause =
      let view = g.O.Sink.view in
      let a = g.S.LineStore.seen c.args.store.now in
      let d = g.S.LineStore.seen c.copy_within.new.store in
      let fault = c.in_err-dropped.field-0.0 in
      if-err-still (λ e. HasApplyCause e a d (view c.args.out.now) (view c.copy_within.new.out)) fault c.from_residual-in_err-dropped.result c.from_residual-in_err-dropped.ensures.1 (apply-cause-more fault a a d (view c.args.out.now) (view c.put_condition-2.new.out) (view c.copy_within.new.out) (keeps-same a) c.in_ok-opened.ensures.call.passes c.in_err-dropped.ensures.cause);
}

pub returns-in_err-end-2 : goal.returns-in_err-end-2
returns-in_err-end-2 g c = record {
  written = if_ok_none _ _ c.from_residual-in_err-end-2.result c.from_residual-in_err-end-2.ensures.1;
  part =
      let view = g.O.Sink.view in
      let name = c.args.define.now in
      let first = c.args.first in
      let end = c.args.block.end in
      on-err _ ((lines : List (List ℕ)) → (g.S.LineStore.seen c.args.store.now).told ≡ Some lines → 1 ≤ c.args.first → c.args.first ≤ c.args.block.end → c.args.block.end ≤ length lines + 1 → (added : List (List ℕ)) → c.args.block.is_adding ≡ is_some_line added → (more : List (List ℕ)) → ReceivesPart (view c.args.out.now) (view c.put_line.new.out) (join_behind c.args.tail.is_open (texts (opening name (lines_between lines c.args.first c.args.block.end) added) ++ more)))
      (λ lines told low order high added is more.
      let last : List (List ℕ) = texts (else_mark added) ++ more in
      let rest : List (List ℕ) = lines_between lines first end ++ (texts (else_mark added) ++ more) in
      part-same (view c.args.out.now) (view c.put_line.new.out) c.args.tail.is_open (ifndef_line name ∷ rest) (texts (opening name (lines_between lines first end) added) ++ more)
      (with name lines first end added more low c.if-block-first.false high)
      (part-after (view c.args.out.now) (view c.copy_within.new.out) (view c.put_line.new.out) c.args.tail c.in_ok-dropped.dropped (ifndef_line name ∷ rest) last
      (wrote-both (view c.args.out.now) (view c.put_condition-2.new.out) (view c.copy_within.new.out) c.args.tail c.in_ok-opened.opened c.in_ok-dropped.dropped (ifndef_line name ∷ rest) rest last
      (c.in_ok-opened.ensures.written rest)
      (c.in_ok-dropped.ensures.written lines told low order high last))
      (part-line (view c.copy_within.new.out) (view c.put_line.new.out) c.in_ok-dropped.dropped else_line last more (ap (λ ls. ls ++ more) (else-one added (sym is ∙ c.if-block.true))) c.in_err-end-2.ensures.failed)));
  keeps = c.in_ok-dropped.ensures.keeps;
  sink = sink_passes_both (sink_passes_both c.in_ok-opened.ensures.call.passes c.in_ok-dropped.ensures.sink) c.in_err-end-2.ensures.call.passes;
  rest = g.met.O.Sink.rest_both _ _ _ (g.met.O.Sink.rest_both _ _ _ c.in_ok-opened.ensures.rest c.in_ok-dropped.ensures.rest) c.in_err-end-2.ensures.rest;
  cause =
      let view = g.O.Sink.view in
      let a = g.S.LineStore.seen c.args.store.now in
      let d = g.S.LineStore.seen c.copy_within.new.store in
      if-err-still (λ e. HasApplyCause e a d (view c.args.out.now) (view c.put_line.new.out)) Write c.from_residual-in_err-end-2.result c.from_residual-in_err-end-2.ensures.1 (apply-cause-more Write a a a (view c.args.out.now) (view c.copy_within.new.out) (view c.put_line.new.out) (keeps-same a) (sink_passes_both c.in_ok-opened.ensures.call.passes c.in_ok-dropped.ensures.sink) (c.in_err-end-2.ensures.call.cause (refl {a = true})));
}

pub returns-then-block : goal.returns-then-block
returns-then-block g c = record {
  written = λ lines told low order high added is more.
      let view = g.O.Sink.view in
      let name = c.args.define.now in
      let first = c.args.first in
      let end = c.args.block.end in
      let last : List (List ℕ) = texts (else_mark added) ++ more in
      let rest : List (List ℕ) = lines_between lines first end ++ (texts (else_mark added) ++ more) in
      wrote-same (view c.args.out.now) (view c.put_line.new.out) c.args.tail c.in_ok-end-2.end (ifndef_line name ∷ rest) (texts (opening name (lines_between lines first end) added) ++ more) more more
      (with name lines first end added more low c.if-block-first.false high) refl
      (wrote-both (view c.args.out.now) (view c.copy_within.new.out) (view c.put_line.new.out) c.args.tail c.in_ok-dropped.dropped c.in_ok-end-2.end (ifndef_line name ∷ rest) last more
      (wrote-both (view c.args.out.now) (view c.put_condition-2.new.out) (view c.copy_within.new.out) c.args.tail c.in_ok-opened.opened c.in_ok-dropped.dropped (ifndef_line name ∷ rest) rest last
      (c.in_ok-opened.ensures.written rest)
      (c.in_ok-dropped.ensures.written lines told low order high last))
      (wrote-line (view c.copy_within.new.out) (view c.put_line.new.out) c.in_ok-dropped.dropped c.in_ok-end-2.end else_line last more (ap (λ ls. ls ++ more) (else-one added (sym is ∙ c.if-block.true))) c.in_ok-end-2.ensures.received c.in_ok-end-2.ensures.end c.in_ok-end-2.ensures.nothing));
  part = tt;
  keeps = c.in_ok-dropped.ensures.keeps;
  sink = sink_passes_both (sink_passes_both c.in_ok-opened.ensures.call.passes c.in_ok-dropped.ensures.sink) c.in_ok-end-2.ensures.call.passes;
  rest = g.met.O.Sink.rest_both _ _ _ (g.met.O.Sink.rest_both _ _ _ c.in_ok-opened.ensures.rest c.in_ok-dropped.ensures.rest) c.in_ok-end-2.ensures.rest;
  cause = tt;
}

pub returns : goal.returns
returns g c = record {
  written = λ lines told low order high added is more.
      let view = g.O.Sink.view in
      let name = c.args.define.now in
      let first = c.args.first in
      let end = c.args.block.end in
      let last : List (List ℕ) = texts (else_mark added) ++ more in
      let rest : List (List ℕ) = lines_between lines first end ++ (texts (else_mark added) ++ more) in
      wrote-same (view c.args.out.now) (view c.copy_within.new.out) c.args.tail c.in_ok-dropped.dropped (ifndef_line name ∷ rest) (texts (opening name (lines_between lines first end) added) ++ more) last more
      (with name lines first end added more low c.if-block-first.false high) (ap (λ ls. ls ++ more) (else-none added (sym is ∙ c.if-block.false)))
      (wrote-both (view c.args.out.now) (view c.put_condition-2.new.out) (view c.copy_within.new.out) c.args.tail c.in_ok-opened.opened c.in_ok-dropped.dropped (ifndef_line name ∷ rest) rest last
      (c.in_ok-opened.ensures.written rest)
      (c.in_ok-dropped.ensures.written lines told low order high last));
  part = tt;
  keeps = c.in_ok-dropped.ensures.keeps;
  sink = sink_passes_both c.in_ok-opened.ensures.call.passes c.in_ok-dropped.ensures.sink;
  rest = g.met.O.Sink.rest_both _ _ _ c.in_ok-opened.ensures.rest c.in_ok-dropped.ensures.rest;
  cause = tt;
}
