use Rattle.std.proofs.Common.{◌≡◌, ◌+◌, ◌++◌, ◌<◌, ◌≤◌, ℕ, List, length, drop, sym, ap, subst, ◌∙◌, arith, rules}
use Rattle.std.proofs.lemmas.List.{length-map}
use Rattle.std.proofs.lemmas.Result.{err_from_is_err_and}
use Rattle.outside.specs.Puts.{Puts}
use Rattle.outside.proofs.SinkSteps.{HasPut, has-more, has-none, has-put, puts-more, puts-stop}
use Rattle.ed_form.specs.PlainEdit.{edit_of, edits_of}
use Rattle.format_convert.specs.Backward.{first_text, grown}
use Rattle.format_convert.specs.Blocks.{blocks_of, script_edits}
use Rattle.format_convert.specs.Runs.{edits_before, IsRun}
use Rattle.format_convert.proofs.RunLemmas.{behind-more, run-none, script-ends, script-none, script-rest}
use Rattle.format_convert.proofs.ScriptLemmas.{edit-at, edit-there}
use Rattle.format_convert.proofs.Bounds.{edits-long, le-same, len-same}
use Rattle.format_convert.proofs.script.put_script.Goals as goal

pub loop-at-init : goal.loop-at-init
loop-at-init g c =
    let es = edits_of c.args.text.now c.args.script.now.edits.items in
    record {
      put = subst (λ (bs : List ℕ). HasPut g.O.Sink.view g.O.Sink.same_rest c.args.out.now c.args.out.now bs) (sym (script-none es)) (has-none g.met.O.Sink.rest_none c.args.out.now);
      run = run-none es c.no_run-run.result c.no_run-run.ensures.from c.no_run-run.ensures.first c.no_run-run.ensures.end c.no_run-run.ensures.adds;
    }

pub loop-at-preserved : goal.loop-at-preserved
loop-at-preserved g c =
    let text = c.args.text.now in
    let items = c.args.script.now.edits.items in
    let es = edits_of text items in
    let i = c.loop-at.at in
    let lt : c.loop-at.at < length c.args.script.now.edits.items = search rules in
    let e = edit-there items i lt in
    let more = behind-more es i (edit_of text e.0) (omega (arith, lt, length-map items (edit_of text))) (edit-at text items i e.0 lt e.1) in
    record {
      put = subst (λ (bs : List ℕ). HasPut g.O.Sink.view g.O.Sink.same_rest c.args.out.now c.put_behind.new.out bs) (sym more) (has-more g.met.O.Sink.rest_both c.loop-at.invariant.put (has-put c.in_ok-run.run' c.in_ok-run.ensures.put));
      run = c.in_ok-run.ensures.run;
    }

pub returns-in_err-run : goal.returns-in_err-run
returns-in_err-run g c =
    let p = err_from_is_err_and c.from_residual.result c.from_residual.ensures.1 in
    let text = c.args.text.now in
    let items = c.args.script.now.edits.items in
    let es = edits_of text items in
    let i = c.loop-at.at in
    let lt : c.loop-at.at < length c.args.script.now.edits.items = search rules in
    let e = edit-there items i lt in
    let more = behind-more es i (edit_of text e.0) (omega (arith, lt, length-map items (edit_of text))) (edit-at text items i e.0 lt e.1) in
    let rest = grown (script_edits (drop (i + 1) es)) (edits_before es (i + 1)) ++ first_text (blocks_of (script_edits (drop (i + 1) es) ++ edits_before es (i + 1))) in
    rw (p.1, script-rest es (i + 1) ∙ ap (λ (t : List ℕ). t ++ rest) more)
    (puts-stop c.in_err-run.field-0.0 p.0 rest (puts-more g.met.O.Sink.rest_both c.loop-at.invariant.put c.in_err-run.ensures.put))

pub returns : goal.returns
returns g c =
    let items = c.args.script.now.edits.items in
    let es = edits_of c.args.text.now items in
    let count : length c.args.script.now.edits.items ≤ c.loop-at.at = search rules in
    let same : c.len.result ≡ c.loop-at.at = search rules in
    let last = subst (λ (n : ℕ). Puts g.O.Sink.view g.O.Sink.same_rest c.loop-at.out c.put_run.new.out c.put_run.result (first_text (blocks_of (edits_before es n)))) same c.put_run.ensures in
    rw (← script-ends es c.loop-at.at (omega (arith, count, length-map items (edit_of c.args.text.now))))
    (puts-more g.met.O.Sink.rest_both c.loop-at.invariant.put last)

pub put_run-requires-clause-run : goal.put_run-requires-clause-run
put_run-requires-clause-run g c = subst (λ (n : ℕ). IsRun (edits_of c.args.text.now c.args.script.now.edits.items) n c.loop-at.run) (len-same c.loop-at.at c.len-at-end.result c.len.result _ c.len-at-end.ensures c.len.ensures c.loop-at.auto.at-end c.loop-at-test.false) c.loop-at.invariant.run

pub put_behind-requires-clause-within : goal.put_behind-requires-clause-within
put_behind-requires-clause-within g c = subst (λ (n : ℕ). c.loop-at.at < n) (c.len-at-end.ensures ∙ edits-long c.args.script.now) c.loop-at-test.true

pub put_run-requires-clause-within : goal.put_run-requires-clause-within
put_run-requires-clause-within g c = le-same _ _ (c.len.ensures ∙ edits-long c.args.script.now)

pub put_run-requires-clause-lawful : goal.put_run-requires-clause-lawful
put_run-requires-clause-lawful g c = c.requires

pub put_behind-requires-clause-run : goal.put_behind-requires-clause-run
put_behind-requires-clause-run g c = c.loop-at.invariant.run

pub put_behind-requires-clause-lawful : goal.put_behind-requires-clause-lawful
put_behind-requires-clause-lawful g c = c.requires
