use Rattle.std.proofs.Common.{◌≡◌, ◌++◌, ℕ, List, Some, refl}
use Rattle.line_store.proofs.StoreLemmas.{keeps-same}
use Rattle.outside.specs.SinkView.{sink_passes_both, ReceivesPart}
use Rattle.outside.proofs.Exits.{if_ok_none}
use Rattle.ed_form.specs.PlainEdit.{lines_of}
use Rattle.hunk_apply.specs.declared.ApplyFault.TheVariants.{Write}
use Rattle.hunk_apply.specs.Faults.{HasApplyCause}
use Rattle.hunk_apply.specs.Written.{lines_between, join_behind}
use Rattle.hunk_apply.proofs.FaultLemmas.{on-err, if-err-still, apply-cause-more}
use Rattle.hunk_apply.proofs.WrittenLemmas.{wrote-both, part-after}
use Rattle.hunk_apply.proofs.script.put_edit.Goals as goal

pub returns-in_err-copied : goal.returns-in_err-copied
returns-in_err-copied g c = record {
  part = (
      let view = g.O.Sink.view in
      let added = lines_of c.args.text.now c.args.edit.now.added.items in
      on-err _ ((lines : List (List ℕ)) → (g.S.LineStore.seen c.args.store.now).told ≡ Some lines → (more : List (List ℕ)) → ReceivesPart (view c.args.out.now) (view c.copy_lines.new.out) (join_behind c.args.tail.is_open (lines_between lines c.args.from c.args.edit.now.first ++ (added ++ more))))
      (λ lines told more. c.in_err-copied.ensures.part lines told (added ++ more)));
  written = if_ok_none _ _ c.from_residual.result c.from_residual.ensures.1;
  keeps = c.in_err-copied.ensures.keeps;
  sink = c.in_err-copied.ensures.sink;
  rest = c.in_err-copied.ensures.rest;
  cause = (
      if-err-still (λ e. HasApplyCause e (g.S.LineStore.seen c.args.store.now) (g.S.LineStore.seen c.copy_lines.new.store) (g.O.Sink.view c.args.out.now) (g.O.Sink.view c.copy_lines.new.out))
      c.in_err-copied.field-0.0 c.from_residual.result c.from_residual.ensures.1 c.in_err-copied.ensures.cause);
}

pub returns-in_err-now : goal.returns-in_err-now
returns-in_err-now g c = record {
  part = (
      let view = g.O.Sink.view in
      let added = lines_of c.args.text.now c.args.edit.now.added.items in
      on-err _ ((lines : List (List ℕ)) → (g.S.LineStore.seen c.args.store.now).told ≡ Some lines → (more : List (List ℕ)) → ReceivesPart (view c.args.out.now) (view c.put_added.new.out) (join_behind c.args.tail.is_open (lines_between lines c.args.from c.args.edit.now.first ++ (added ++ more))))
      (λ lines told more.
      part-after (view c.args.out.now) (view c.copy_lines.new.out) (view c.put_added.new.out) c.args.tail c.in_ok-copied.copied
      (lines_between lines c.args.from c.args.edit.now.first ++ (added ++ more)) (added ++ more)
      (c.in_ok-copied.ensures.written lines told (added ++ more))
      (c.in_err-now.ensures.part more)));
  written = if_ok_none _ _ c.from_residual-in_err-now.result c.from_residual-in_err-now.ensures.1;
  keeps = c.in_ok-copied.ensures.keeps;
  sink = sink_passes_both c.in_ok-copied.ensures.sink c.in_err-now.ensures.call.passes;
  rest = g.met.O.Sink.rest_both _ _ _ c.in_ok-copied.ensures.rest c.in_err-now.ensures.rest;
  cause = (
      let a = g.S.LineStore.seen c.args.store.now in
      let b = g.S.LineStore.seen c.copy_lines.new.store in
      let u = g.O.Sink.view c.args.out.now in
      let v = g.O.Sink.view c.copy_lines.new.out in
      let w = g.O.Sink.view c.put_added.new.out in
      if-err-still (λ e. HasApplyCause e a b u w) Write c.from_residual-in_err-now.result c.from_residual-in_err-now.ensures.1
      (apply-cause-more Write a a b u v w (keeps-same (g.S.LineStore.seen c.args.store.now)) c.in_ok-copied.ensures.sink (c.in_err-now.ensures.call.cause refl)));
}

pub returns : goal.returns
returns g c = record {
  written = λ lines told more.
      let view = g.O.Sink.view in
      let added = lines_of c.args.text.now c.args.edit.now.added.items in
      wrote-both (view c.args.out.now) (view c.copy_lines.new.out) (view c.put_added.new.out) c.args.tail c.in_ok-copied.copied c.in_ok-now.now
      (lines_between lines c.args.from c.args.edit.now.first ++ (added ++ more)) (added ++ more) more
      (c.in_ok-copied.ensures.written lines told (added ++ more))
      (c.in_ok-now.ensures.written more);
  part = tt;
  keeps = c.in_ok-copied.ensures.keeps;
  sink = sink_passes_both c.in_ok-copied.ensures.sink c.in_ok-now.ensures.call.passes;
  rest = g.met.O.Sink.rest_both _ _ _ c.in_ok-copied.ensures.rest c.in_ok-now.ensures.rest;
  cause = tt;
}

pub put_added-requires : goal.put_added-requires
put_added-requires g c = record { lies = c.requires.lies }

pub copy_lines-requires-clause-counted : goal.copy_lines-requires-clause-counted
copy_lines-requires-clause-counted g c = c.requires.counted

pub copy_lines-requires-clause-low : goal.copy_lines-requires-clause-low
copy_lines-requires-clause-low g c = c.requires.low

pub copy_lines-requires-clause-order : goal.copy_lines-requires-clause-order
copy_lines-requires-clause-order g c = c.requires.order

pub copy_lines-requires-clause-high : goal.copy_lines-requires-clause-high
copy_lines-requires-clause-high g c = c.requires.high
