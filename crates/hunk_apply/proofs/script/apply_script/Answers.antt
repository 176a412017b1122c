use Rattle.std.proofs.Common.{◌≡◌, ℕ, List, [], ◌∷◌, Some, length, true, false, take, set, refl, ap, subst, ◌∙◌, arith}
use Rattle.std.specs.List.{All}
use Rattle.std.proofs.lemmas.List.{take_all, length-set}
use Rattle.outside.specs.SinkView.{ReceivesPart}
use Rattle.outside.proofs.Exits.{if_ok_none, on_ok_none}
use Rattle.line_list.specs.Join.{join}
use Rattle.ed_form.specs.PlainEdit.{edits_of}
use Rattle.hunk_apply.specs.declared.put.Tail.{Tail}
use Rattle.hunk_apply.specs.Faults.{HasApplyCause}
use Rattle.hunk_apply.specs.Session.{IsTried, FillsFirst}
use Rattle.hunk_apply.specs.Script.{reaches_behind, script_lines}
use Rattle.hunk_apply.proofs.FaultLemmas.{on-err, if-err-still}
use Rattle.hunk_apply.proofs.RowLemmas.{tried-more}
use Rattle.hunk_apply.proofs.ScriptLemmas.{behind-is, one-row}
use Rattle.hunk_apply.proofs.WrittenLemmas.{wrote-whole, wrote-nothing, part-whole}
use Rattle.hunk_apply.proofs.script.apply_script.Goals as goal

abbrev first : Tail
first = record { is_open = false; is_empty = true }

pub put_script-requires-clause-fails : goal.put_script-requires-clause-fails
put_script-requires-clause-fails g c =
    let es = edits_of c.args.text.now c.args.script.now.edits.items in
    c.is_behind-fails.ensures ∙ behind-is c.args.text.now c.count-count.result c.args.script.now.edits.items ∙ ap (λ n. reaches_behind n es) c.count-count.ensures.is

pub returns-in_err-end : goal.returns-in_err-end
returns-in_err-end g c = record {
  part = (
      let view = g.O.Sink.view in
      let es = edits_of c.args.text.now c.args.script.now.edits.items in
      on-err _ ((lines : List (List ℕ)) → (g.S.LineStore.seen c.args.store.now).told ≡ Some lines → ReceivesPart (view c.args.out.now) (view c.put_script.new.out) (join (script_lines lines es)))
      (λ lines told. part-whole (view c.args.out.now) (view c.put_script.new.out) false (script_lines lines es) refl (c.in_err-end.ensures.part lines told)));
  placed = on_ok_none _ _ c.from_residual.result c.from_residual.ensures.1;
  tried = on_ok_none _ _ c.from_residual.result c.from_residual.ensures.1;
  received = on_ok_none _ _ c.from_residual.result c.from_residual.ensures.1;
  applied = if_ok_none _ _ c.from_residual.result c.from_residual.ensures.1;
  failed = if_ok_none _ _ c.from_residual.result c.from_residual.ensures.1;
  inexact = if_ok_none _ _ c.from_residual.result c.from_residual.ensures.1;
  output_empty = if_ok_none _ _ c.from_residual.result c.from_residual.ensures.1;
  keeps = c.in_err-end.ensures.keeps;
  sink = c.in_err-end.ensures.sink;
  rest = c.in_err-end.ensures.rest;
  filled = on-err _ (FillsFirst c.args.verdicts.now c.args.verdicts.now) (record { count = 0; tried = λ k d lt. absurd (omega arith); others = refl });
  cause = (
      if-err-still (λ e. HasApplyCause e (g.S.LineStore.seen c.args.store.now) (g.S.LineStore.seen c.put_script.new.store) (g.O.Sink.view c.args.out.now) (g.O.Sink.view c.put_script.new.out))
      c.in_err-end.field-0.0 c.from_residual.result c.from_residual.ensures.1 c.in_err-end.ensures.cause);
}

pub returns : goal.returns
returns g c = record {
  placed = λ lines told.
      let es = edits_of c.args.text.now c.args.script.now.edits.items in
      let count : c.count-count.result ≡ length lines = c.count-count.ensures.is ∙ (c.count-count.ensures.told lines told).count in
      one-row c.args.verdicts.now c.verdict_of.result c.requires.rows
      ∙ ap (λ v. v ∷ []) (c.verdict_of.ensures.is c.args.text.now (length lines) (c.is_behind-fails.ensures ∙ behind-is c.args.text.now c.count-count.result c.args.script.now.edits.items ∙ ap (λ n. reaches_behind n es) count));
  received = λ lines told.
      let view = g.O.Sink.view in
      let es = edits_of c.args.text.now c.args.script.now.edits.items in
      wrote-whole (view c.args.out.now) (view c.put_script.new.out) first c.in_ok-end.end (script_lines lines es) (c.in_ok-end.ensures.written lines told) refl;
  output_empty = λ lines told.
      let view = g.O.Sink.view in
      let es = edits_of c.args.text.now c.args.script.now.edits.items in
      c.session_of.ensures.nothing ∙ wrote-nothing (view c.args.out.now) (view c.put_script.new.out) first c.in_ok-end.end (script_lines lines es) (c.in_ok-end.ensures.written lines told) refl refl;
  applied = c.session_of.ensures.applied;
  failed = c.session_of.ensures.failed;
  inexact = c.session_of.ensures.inexact;
  keeps = c.in_ok-end.ensures.keeps;
  sink = c.in_ok-end.ensures.sink;
  rest = c.in_ok-end.ensures.rest;
  part = tt;
  filled = tt;
  cause = tt;
  tried = (
      let vs = c.args.verdicts.now in
      let none : All IsTried (take 0 vs) = λ k d lt. absurd (omega arith) in
      subst (All IsTried) (take_all 1 (set vs 0 c.verdict_of.result) (omega (arith, length-set vs 0 c.verdict_of.result, c.requires.rows))) (tried-more vs 0 c.verdict_of.result (omega (arith, c.requires.rows)) none c.verdict_of.ensures.tried));
}

pub session_of-requires : goal.session_of-requires
session_of-requires g c = omega (arith, length-set c.args.verdicts.now 0 c.verdict_of.result, c.requires.rows)

pub put_script-requires-clause-counted : goal.put_script-requires-clause-counted
put_script-requires-clause-counted g c lines told = (c.count-count.ensures.told lines told).count

pub verdict_of-requires : goal.verdict_of-requires
verdict_of-requires g c = record { some = c.requires.lawful.some }
