use Rattle.std.proofs.Common.{◌≡◌, ◌+◌, ◌<◌, ◌^◌, ℕ, List, [], true, false, Err, length, get_or, sym, subst, ◌∙◌, arith}
use Rattle.std.proofs.lemmas.List.{append-nil, length-map}
use Rattle.std.proofs.lemmas.Result.{err_from_is_err_and}
use Rattle.outside.specs.SinkView.{SinkView}
use Rattle.hunk_core.specs.PlainHunk.{bytes_at}
use Rattle.outside.specs.Puts.{Puts}
use Rattle.outside.proofs.SinkSteps.{HasPut, has-none, has-put, puts-done, puts-stop}
use Rattle.ed_form.specs.declared.script.EdEdit.{EdEdit}
use Rattle.ed_form.specs.PlainEdit.{IsLawfulEdit, IsLawfulScript, edit_of, edits_of}
use Rattle.format_convert.proofs.RunLemmas.{grown-by, grown-still, run-grown, run-own, run-still}
use Rattle.format_convert.proofs.ScriptLemmas.{each-few, edit-at, lawful-at}
use Rattle.format_convert.proofs.Bounds.{lt-le}
use Rattle.format_convert.proofs.script.put_behind.Goals as goal

puts-again : {O R S E F : Type 0} {view : O → SinkView} {same : O → O → Type 0} {old new : O} {bytes : List ℕ} (e : E) (f : F) → Puts {R = R} view same old new (Err e) bytes → Puts {R = S} view same old new (Err f) bytes
puts-again {S = S} {view = view} {same = same} {old = old} {new = new} {bytes = bytes} e f p = subst (λ bs. Puts {R = S} view same old new (Err f) bs) (append-nil bytes) (puts-stop e f [] p)

-- what is known of the next command
record Next (text : List ℕ) (es : List EdEdit) (i : ℕ) (e : EdEdit) : Type 0 where
  pub within : i < length (edits_of text es)
  pub is : edit_of text e ≡ get_or (edits_of text es) i (edit_of text e)
  pub lawful : IsLawfulEdit (edit_of text e)
  pub count : length e.added.items ≡ length (edit_of text e).added
  pub few : length e.added.items < 2 ^ 32
  pub at : i + 1 < 2 ^ 32

next : (text : List ℕ) (s : _) (i : ℕ) (e : EdEdit) → IsLawfulScript text s → i < length s.edits.items → e ≡ get_or s.edits.items i e → Next text s.edits.items i e
next text s i e lawful lt is =
    let within : i < length (edits_of text s.edits.items) = omega (arith, lt, length-map s.edits.items (edit_of text)) in
    let there = edit-at text s.edits.items i e lt is in
    record {
      within = within;
      is = there;
      lawful = lawful-at (2 ^ 32) (edits_of text s.edits.items) i (edit_of text e) lawful.edits within there;
      count = sym (length-map e.added.items (bytes_at text));
      few = omega (arith, each-few s.edits.items i e lt is, lawful.few);
      at = omega (arith, lt, lawful.few);
    }

pub returns-then-not-is_change-clause-put : goal.returns-then-not-is_change-clause-put
returns-then-not-is_change-clause-put g c =
    let text = c.args.text.now in
    let e = c.index-edit.result.now in
    let n = next text c.args.script.now c.args.at e c.requires.lawful c.requires.within c.index-edit.ensures in
    puts-done _ (subst (λ (bs : List ℕ). HasPut g.O.Sink.view g.O.Sink.same_rest c.args.out.now c.args.out.now bs)
    (sym (grown-still (edits_of text c.args.script.now.edits.items) c.args.at (edit_of text e) n.within n.is (sym (c.is_change.ensures text) ∙ c.if-not-is_change.true)))
    (has-none g.met.O.Sink.rest_none c.args.out.now))

pub returns-then-not-is_change-clause-run : goal.returns-then-not-is_change-clause-run
returns-then-not-is_change-clause-run g c =
    let text = c.args.text.now in
    let e = c.index-edit.result.now in
    let n = next text c.args.script.now c.args.at e c.requires.lawful c.requires.within c.index-edit.ensures in
    run-still (edits_of text c.args.script.now.edits.items) c.args.at (edit_of text e) n.within n.is (sym (c.is_change.ensures text) ∙ c.if-not-is_change.true) c.args.run c.requires.run

pub run_with-requires : goal.run_with-requires
run_with-requires g c =
    let text = c.args.text.now in
    let n = next text c.args.script.now c.args.at c.index-edit.result.now c.requires.lawful c.requires.within c.index-edit.ensures in
    omega (arith, n.few, n.at, c.requires.run.few)

pub returns-then-is_beside-clause-put : goal.returns-then-is_beside-clause-put
returns-then-is_beside-clause-put g c =
    let text = c.args.text.now in
    let e = c.index-edit.result.now in
    let n = next text c.args.script.now c.args.at e c.requires.lawful c.requires.within c.index-edit.ensures in
    puts-done _ (subst (λ (bs : List ℕ). HasPut g.O.Sink.view g.O.Sink.same_rest c.args.out.now c.args.out.now bs)
    (sym (grown-by (edits_of text c.args.script.now.edits.items) c.args.at (edit_of text e) n.within n.is n.lawful (sym (c.is_change.ensures text) ∙ c.if-not-is_change.false) c.args.run c.requires.run true (sym c.is_beside.ensures ∙ c.if-is_beside.true)))
    (has-none g.met.O.Sink.rest_none c.args.out.now))

pub returns-then-is_beside-clause-run : goal.returns-then-is_beside-clause-run
returns-then-is_beside-clause-run g c =
    let text = c.args.text.now in
    let e = c.index-edit.result.now in
    let n = next text c.args.script.now c.args.at e c.requires.lawful c.requires.within c.index-edit.ensures in
    run-grown (edits_of text c.args.script.now.edits.items) c.args.at (edit_of text e) n.within n.is n.lawful (sym (c.is_change.ensures text) ∙ c.if-not-is_change.false) c.args.run c.requires.run c.run_with.result (length e.added.items) c.run_with.ensures.first n.count n.few
    (sym c.is_beside.ensures ∙ c.if-is_beside.true) c.run_with.ensures.from c.run_with.ensures.end c.run_with.ensures.adds

pub returns-in_err-put_run-clause-put : goal.returns-in_err-put_run-clause-put
returns-in_err-put_run-clause-put g c =
    let p = err_from_is_err_and c.from_residual.result c.from_residual.ensures.1 in
    let text = c.args.text.now in
    let e = c.index-edit.result.now in
    let n = next text c.args.script.now c.args.at e c.requires.lawful c.requires.within c.index-edit.ensures in
    rw (p.1, grown-by (edits_of text c.args.script.now.edits.items) c.args.at (edit_of text e) n.within n.is n.lawful (sym (c.is_change.ensures text) ∙ c.if-not-is_change.false) c.args.run c.requires.run false (sym c.is_beside.ensures ∙ c.if-is_beside.false))
    (puts-again c.in_err-put_run.field-0.0 p.0 c.in_err-put_run.ensures)

pub returns-clause-put : goal.returns-clause-put
returns-clause-put g c =
    let text = c.args.text.now in
    let e = c.index-edit.result.now in
    let n = next text c.args.script.now c.args.at e c.requires.lawful c.requires.within c.index-edit.ensures in
    puts-done _ (subst (λ (bs : List ℕ). HasPut g.O.Sink.view g.O.Sink.same_rest c.args.out.now c.put_run.new.out bs)
    (sym (grown-by (edits_of text c.args.script.now.edits.items) c.args.at (edit_of text e) n.within n.is n.lawful (sym (c.is_change.ensures text) ∙ c.if-not-is_change.false) c.args.run c.requires.run false (sym c.is_beside.ensures ∙ c.if-is_beside.false)))
    (has-put c.in_ok-put_run.field-0 c.in_ok-put_run.ensures))

pub returns-clause-run : goal.returns-clause-run
returns-clause-run g c =
    let text = c.args.text.now in
    let e = c.index-edit.result.now in
    let n = next text c.args.script.now c.args.at e c.requires.lawful c.requires.within c.index-edit.ensures in
    run-own (edits_of text c.args.script.now.edits.items) c.args.at (edit_of text e) n.within n.is n.lawful (sym (c.is_change.ensures text) ∙ c.if-not-is_change.false) c.args.run c.requires.run c.run_of.result (length e.added.items) c.run_of.ensures.first n.count n.few
    (sym c.is_beside.ensures ∙ c.if-is_beside.false) c.run_of.ensures.from c.run_of.ensures.end c.run_of.ensures.adds c.run_of.ensures.near

pub put_run-requires-clause-within : goal.put_run-requires-clause-within
put_run-requires-clause-within g c = lt-le c.args.at _ c.requires.within

pub put_run-requires-clause-run : goal.put_run-requires-clause-run
put_run-requires-clause-run g c = c.requires.run

pub put_run-requires-clause-lawful : goal.put_run-requires-clause-lawful
put_run-requires-clause-lawful g c = c.requires.lawful
