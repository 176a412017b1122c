use Rattle.std.proofs.Common.{◌≡◌, ℕ, List, [], ◌∷◌, length, Some, sym, ap, subst, ◌∙◌}
use Rattle.std.proofs.lemmas.Result.{on_ok_weaker, on_err_weaker}
use Rattle.outside.specs.SinkView.{Receives, ReceivesPart}
use Rattle.line_list.specs.Join.{join}
use Rattle.hunk_core.specs.declared.Hunk.{Hunk}
use Rattle.hunk_core.specs.PlainHunk.{hunks_of}
use Rattle.hunk_place.specs.Verdicts.{verdicts, at_start}
use Rattle.ed_form.specs.PlainEdit.{edits_of}
use Rattle.read_file_patch.specs.PlainPatch.{PlainChange, hunks, change_of, row_count, IsLawfulChange, AreLawfulHunks}
use Rattle.hunk_apply.specs.declared.Session.{Session}
use Rattle.hunk_apply.specs.Applied.{taken_all, applied}
use Rattle.hunk_apply.specs.Change.{change_output, change_verdicts}
use Rattle.hunk_apply.specs.Script.{script_lines, script_verdict}
use Rattle.hunk_apply.specs.Written.{is_nothing}
use Rattle.hunk_apply.proofs.ChangeLemmas.{hunks-verdicts, hunks-output, script-output}
use Rattle.hunk_apply.proofs.FaultLemmas.{if-ok-map}
use Rattle.hunk_apply.proofs.change.apply_hunks.Goals as goal

pub returns-in-Hunks : goal.returns-in-Hunks
returns-in-Hunks g c = record {
  placed = (
      let hs = c.deref.result.now in
      let text = c.args.text.now in
      let change = change_of text c.args.patch.now.change in
      let is : change_of text c.args.patch.now.change ≡ hunks (hunks_of text c.deref.result.now) = ap (change_of text) c.in-Hunks.is ∙ ap (λ (hs : List Hunk). hunks (hunks_of text hs)) (sym c.deref.ensures.value) in
      on_ok_weaker {P = (lines : List (List ℕ)) → (g.S.LineStore.seen c.args.store.now).told ≡ Some lines → c.apply_each.new.verdicts ≡ verdicts lines c.args.fuzz c.args.loose at_start (taken_all text c.args.side hs)}
      c.apply_each.result
      (λ h lines told. h lines told ∙ hunks-verdicts lines c.args.fuzz c.args.loose text c.args.side hs change is)
      c.apply_each.ensures.placed);
  received = (
      let view = g.O.Sink.view in
      let hs = c.deref.result.now in
      let text = c.args.text.now in
      let change = change_of text c.args.patch.now.change in
      let is : change_of text c.args.patch.now.change ≡ hunks (hunks_of text c.deref.result.now) = ap (change_of text) c.in-Hunks.is ∙ ap (λ (hs : List Hunk). hunks (hunks_of text hs)) (sym c.deref.ensures.value) in
      on_ok_weaker {P = (lines : List (List ℕ)) → (g.S.LineStore.seen c.args.store.now).told ≡ Some lines → Receives (view c.args.out.now) (view c.apply_each.new.out) (applied lines c.args.fuzz c.args.loose (taken_all text c.args.side hs))}
      c.apply_each.result
      (λ h lines told. subst (λ (bytes : List ℕ). Receives (view c.args.out.now) (view c.apply_each.new.out) bytes) (hunks-output lines c.args.fuzz c.args.loose text c.args.side hs change is) (h lines told))
      c.apply_each.ensures.received);
  output_empty = (
      let hs = c.deref.result.now in
      let text = c.args.text.now in
      let change = change_of text c.args.patch.now.change in
      let is : change_of text c.args.patch.now.change ≡ hunks (hunks_of text c.deref.result.now) = ap (change_of text) c.in-Hunks.is ∙ ap (λ (hs : List Hunk). hunks (hunks_of text hs)) (sym c.deref.ensures.value) in
      if-ok-map c.apply_each.result
      (λ (session : Session). (lines : List (List ℕ)) → (g.S.LineStore.seen c.args.store.now).told ≡ Some lines → session.output_empty ≡ is_nothing (applied lines c.args.fuzz c.args.loose (taken_all text c.args.side hs)))
      (λ (session : Session). (lines : List (List ℕ)) → (g.S.LineStore.seen c.args.store.now).told ≡ Some lines → session.output_empty ≡ is_nothing (change_output lines c.args.fuzz c.args.loose c.args.side change))
      (λ session h lines told. h lines told ∙ ap is_nothing (hunks-output lines c.args.fuzz c.args.loose text c.args.side hs change is))
      c.apply_each.ensures.output_empty);
  part = (
      let view = g.O.Sink.view in
      let hs = c.deref.result.now in
      let text = c.args.text.now in
      let change = change_of text c.args.patch.now.change in
      let is : change_of text c.args.patch.now.change ≡ hunks (hunks_of text c.deref.result.now) = ap (change_of text) c.in-Hunks.is ∙ ap (λ (hs : List Hunk). hunks (hunks_of text hs)) (sym c.deref.ensures.value) in
      on_err_weaker {P = (lines : List (List ℕ)) → (g.S.LineStore.seen c.args.store.now).told ≡ Some lines → ReceivesPart (view c.args.out.now) (view c.apply_each.new.out) (applied lines c.args.fuzz c.args.loose (taken_all text c.args.side hs))}
      c.apply_each.result
      (λ h lines told. subst (λ (bytes : List ℕ). ReceivesPart (view c.args.out.now) (view c.apply_each.new.out) bytes) (hunks-output lines c.args.fuzz c.args.loose text c.args.side hs change is) (h lines told))
      c.apply_each.ensures.part);
  tried = c.apply_each.ensures.tried;
  applied = c.apply_each.ensures.applied;
  failed = c.apply_each.ensures.failed;
  inexact = c.apply_each.ensures.inexact;
  filled = c.apply_each.ensures.filled;
  keeps = c.apply_each.ensures.keeps;
  sink = c.apply_each.ensures.sink;
  rest = c.apply_each.ensures.rest;
  cause = c.apply_each.ensures.cause;
}

pub apply_each-requires-clause-lawful : goal.apply_each-requires-clause-lawful
apply_each-requires-clause-lawful g c =
    let are : AreLawfulHunks c.args.text.now c.deref.result.now = subst (AreLawfulHunks c.args.text.now) (sym c.deref.ensures.value) (subst (IsLawfulChange c.args.text.now) c.in-Hunks.is c.requires.lawful) in
    are.lawful

pub apply_each-requires-clause-few : goal.apply_each-requires-clause-few
apply_each-requires-clause-few g c =
    let are : AreLawfulHunks c.args.text.now c.deref.result.now = subst (AreLawfulHunks c.args.text.now) (sym c.deref.ensures.value) (subst (IsLawfulChange c.args.text.now) c.in-Hunks.is c.requires.lawful) in
    are.count

pub apply_each-requires-clause-short : goal.apply_each-requires-clause-short
apply_each-requires-clause-short g c =
    let are : AreLawfulHunks c.args.text.now c.deref.result.now = subst (AreLawfulHunks c.args.text.now) (sym c.deref.ensures.value) (subst (IsLawfulChange c.args.text.now) c.in-Hunks.is c.requires.lawful) in
    are.few

pub apply_each-requires-clause-rows : goal.apply_each-requires-clause-rows
apply_each-requires-clause-rows g c = c.requires.rows ∙ ap row_count c.in-Hunks.is ∙ ap (λ (hs : List Hunk). length hs) (sym c.deref.ensures.value)

pub apply_script-requires-clause-lawful : goal.apply_script-requires-clause-lawful
apply_script-requires-clause-lawful g c = subst (IsLawfulChange c.args.text.now) c.in-Script.is c.requires.lawful

pub apply_script-requires-clause-rows : goal.apply_script-requires-clause-rows
apply_script-requires-clause-rows g c = c.requires.rows ∙ ap row_count c.in-Script.is

pub returns-in-Script : goal.returns-in-Script
returns-in-Script g c = record {
  part = (
      let view = g.O.Sink.view in
      let text = c.args.text.now in
      let change = change_of text c.args.patch.now.change in
      let es = edits_of text c.in-Script.script.edits.items in
      on_err_weaker {P = (lines : List (List ℕ)) → (g.S.LineStore.seen c.args.store.now).told ≡ Some lines → ReceivesPart (view c.args.out.now) (view c.apply_script.new.out) (join (script_lines lines es))}
      c.apply_script.result
      (λ h lines told. subst (λ (bytes : List ℕ). ReceivesPart (view c.args.out.now) (view c.apply_script.new.out) bytes) (script-output lines c.args.fuzz c.args.loose c.args.side es change (ap (change_of text) c.in-Script.is)) (h lines told))
      c.apply_script.ensures.part);
  tried = c.apply_script.ensures.tried;
  applied = c.apply_script.ensures.applied;
  failed = c.apply_script.ensures.failed;
  inexact = c.apply_script.ensures.inexact;
  filled = c.apply_script.ensures.filled;
  keeps = c.apply_script.ensures.keeps;
  sink = c.apply_script.ensures.sink;
  rest = c.apply_script.ensures.rest;
  cause = c.apply_script.ensures.cause;
  placed = (
      let text = c.args.text.now in
      let change = change_of text c.args.patch.now.change in
      let es = edits_of text c.in-Script.script.edits.items in
      on_ok_weaker {P = (lines : List (List ℕ)) → (g.S.LineStore.seen c.args.store.now).told ≡ Some lines → c.apply_script.new.verdicts ≡ script_verdict (length lines) es ∷ []}
      c.apply_script.result
      (λ h lines told. h lines told ∙ sym (ap (λ (x : PlainChange). change_verdicts lines c.args.fuzz c.args.loose c.args.side x) (ap (change_of text) c.in-Script.is)))
      c.apply_script.ensures.placed);
  received = (
      let view = g.O.Sink.view in
      let text = c.args.text.now in
      let change = change_of text c.args.patch.now.change in
      let es = edits_of text c.in-Script.script.edits.items in
      on_ok_weaker {P = (lines : List (List ℕ)) → (g.S.LineStore.seen c.args.store.now).told ≡ Some lines → Receives (view c.args.out.now) (view c.apply_script.new.out) (join (script_lines lines es))}
      c.apply_script.result
      (λ h lines told. subst (λ (bytes : List ℕ). Receives (view c.args.out.now) (view c.apply_script.new.out) bytes) (script-output lines c.args.fuzz c.args.loose c.args.side es change (ap (change_of text) c.in-Script.is)) (h lines told))
      c.apply_script.ensures.received);
  output_empty = (
      let text = c.args.text.now in
      let change = change_of text c.args.patch.now.change in
      let es = edits_of text c.in-Script.script.edits.items in
      if-ok-map c.apply_script.result
      (λ (session : Session). (lines : List (List ℕ)) → (g.S.LineStore.seen c.args.store.now).told ≡ Some lines → session.output_empty ≡ is_nothing (join (script_lines lines es)))
      (λ (session : Session). (lines : List (List ℕ)) → (g.S.LineStore.seen c.args.store.now).told ≡ Some lines → session.output_empty ≡ is_nothing (change_output lines c.args.fuzz c.args.loose c.args.side change))
      (λ session h lines told. h lines told ∙ ap is_nothing (script-output lines c.args.fuzz c.args.loose c.args.side es change (ap (change_of text) c.in-Script.is)))
      c.apply_script.ensures.output_empty);
}
