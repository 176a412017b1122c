use Rattle.std.proofs.Common.{◌≡◌, ◌+◌, ◌++◌, ℕ, List, [], Some, length, refl, sym, ◌∙◌}
use Rattle.std.proofs.lemmas.Result.{on_err_weaker}
use Rattle.outside.specs.SinkView.{ReceivesPart}
use Rattle.outside.proofs.Exits.{if_ok_none}
use Rattle.ed_form.specs.PlainEdit.{edits_of}
use Rattle.hunk_apply.specs.Faults.{HasApplyCause}
use Rattle.hunk_apply.specs.Script.{scripted, script_lines}
use Rattle.hunk_apply.specs.Written.{Wrote, lines_between, join_behind}
use Rattle.hunk_apply.proofs.Steps.{fits-count}
use Rattle.hunk_apply.proofs.FaultLemmas.{on-err, if-ok-map, if-err-still}
use Rattle.hunk_apply.proofs.ScriptLemmas.{stays-whole, carried-out, whole-between}
use Rattle.hunk_apply.proofs.WrittenLemmas.{wrote-same, part-same}
use Rattle.hunk_apply.proofs.script.put_script.Goals as goal

pub returns-in_err-end : goal.returns-in_err-end
returns-in_err-end g c = record {
  part = (
      let view = g.O.Sink.view in
      let es = edits_of c.args.text.now c.args.script.now.edits.items in
      let n = c.count-count.result in
      on-err _ ((lines : List (List ℕ)) → (g.S.LineStore.seen c.args.store.now).told ≡ Some lines → ReceivesPart (view c.args.out.now) (view c.copy_lines.new.out) (join_behind c.args.tail.is_open (script_lines lines es)))
      (λ lines told.
      let count : (g.S.LineStore.seen c.args.store.now).count ≡ length lines = c.requires.counted lines told in
      part-same (view c.args.out.now) (view c.copy_lines.new.out) c.args.tail.is_open (lines_between lines 1 (n + 1) ++ []) (script_lines lines es)
      (whole-between lines n (c.count-count.ensures.is ∙ count) ∙ stays-whole lines es (g.S.LineStore.seen c.args.store.now).count c.args.fails c.requires.fails count c.if-fails.true)
      (c.in_err-end.ensures.part lines told [])));
  written = if_ok_none _ _ c.from_residual.result c.from_residual.ensures.1;
  keeps = c.in_err-end.ensures.keeps;
  sink = c.in_err-end.ensures.sink;
  rest = c.in_err-end.ensures.rest;
  cause = (
      if-err-still (λ e. HasApplyCause e (g.S.LineStore.seen c.args.store.now) (g.S.LineStore.seen c.copy_lines.new.store) (g.O.Sink.view c.args.out.now) (g.O.Sink.view c.copy_lines.new.out))
      c.in_err-end.field-0.0 c.from_residual.result c.from_residual.ensures.1 c.in_err-end.ensures.cause);
}

pub returns-then-fails : goal.returns-then-fails
returns-then-fails g c = record {
  written = λ lines told.
      let view = g.O.Sink.view in
      let es = edits_of c.args.text.now c.args.script.now.edits.items in
      let n = c.count-count.result in
      let count : (g.S.LineStore.seen c.args.store.now).count ≡ length lines = c.requires.counted lines told in
      wrote-same (view c.args.out.now) (view c.copy_lines.new.out) c.args.tail c.in_ok-end.end (lines_between lines 1 (n + 1) ++ []) (script_lines lines es) [] []
      (whole-between lines n (c.count-count.ensures.is ∙ count) ∙ stays-whole lines es (g.S.LineStore.seen c.args.store.now).count c.args.fails c.requires.fails count c.if-fails.true) refl
      (c.in_ok-end.ensures.written lines told []);
  keeps = c.in_ok-end.ensures.keeps;
  sink = c.in_ok-end.ensures.sink;
  rest = c.in_ok-end.ensures.rest;
  part = tt;
  cause = tt;
}

pub copy_lines-requires-clause-counted : goal.copy_lines-requires-clause-counted
copy_lines-requires-clause-counted g c = c.requires.counted

pub carry_out-requires-clause-counted : goal.carry_out-requires-clause-counted
carry_out-requires-clause-counted g c = c.requires.counted

pub carry_out-requires-clause-within : goal.carry_out-requires-clause-within
carry_out-requires-clause-within g c = sym c.requires.fails ∙ c.if-fails.false

pub carry_out-requires-clause-lawful : goal.carry_out-requires-clause-lawful
carry_out-requires-clause-lawful g c = c.requires.lawful

pub overflow_add-count : goal.overflow_add-count
overflow_add-count g c = fits-count c.count-count.result c.count-count.ensures.most

pub returns : goal.returns
returns g c = record {
  part = (
      let view = g.O.Sink.view in
      let es = edits_of c.args.text.now c.args.script.now.edits.items in
      on_err_weaker {P = (lines : List (List ℕ)) → (g.S.LineStore.seen c.args.store.now).told ≡ Some lines → ReceivesPart (view c.args.out.now) (view c.carry_out.new.out) (join_behind c.args.tail.is_open (scripted lines es))}
      c.carry_out.result
      (λ h lines told.
      let count : (g.S.LineStore.seen c.args.store.now).count ≡ length lines = c.requires.counted lines told in
      part-same (view c.args.out.now) (view c.carry_out.new.out) c.args.tail.is_open (scripted lines es) (script_lines lines es)
      (carried-out lines es (g.S.LineStore.seen c.args.store.now).count c.args.fails c.requires.fails count c.if-fails.false)
      (h lines told))
      c.carry_out.ensures.part);
  keeps = c.carry_out.ensures.keeps;
  sink = c.carry_out.ensures.sink;
  rest = c.carry_out.ensures.rest;
  cause = c.carry_out.ensures.cause;
  written = (
      let view = g.O.Sink.view in
      let es = edits_of c.args.text.now c.args.script.now.edits.items in
      if-ok-map c.carry_out.result
      (λ end. (lines : List (List ℕ)) → (g.S.LineStore.seen c.args.store.now).told ≡ Some lines → Wrote (view c.args.out.now) (view c.carry_out.new.out) c.args.tail end (scripted lines es) [])
      (λ end. (lines : List (List ℕ)) → (g.S.LineStore.seen c.args.store.now).told ≡ Some lines → Wrote (view c.args.out.now) (view c.carry_out.new.out) c.args.tail end (script_lines lines es) [])
      (λ end h lines told.
      wrote-same (view c.args.out.now) (view c.carry_out.new.out) c.args.tail end (scripted lines es) (script_lines lines es) [] []
      (carried-out lines es (g.S.LineStore.seen c.args.store.now).count c.args.fails c.requires.fails (c.requires.counted lines told) c.if-fails.false) refl
      (h lines told))
      c.carry_out.ensures.written);
}
