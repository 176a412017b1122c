use Rattle.std.proofs.Common.{◌≡◌, ◌-◌, ◌++◌, ◌||◌, ℕ, List, [], Bool, true, false, cond, not, eqb, sym, ap, subst, ◌∙◌, arith}
use Rattle.std.proofs.lemmas.Result.{err_from_is_err_and}
use Rattle.outside.proofs.SinkSteps.{HasPut, has-none, has-put, puts-done, puts-more, puts-stop}
use Rattle.ed_form.specs.PlainEdit.{PlainEdit, edits_of}
use Rattle.format_convert.specs.Backward.{first_text}
use Rattle.format_convert.specs.Blocks.{blocks_of}
use Rattle.format_convert.specs.Commands.{ed_command, ed_head, ed_lines}
use Rattle.format_convert.specs.Fronts.{front_block}
use Rattle.format_convert.specs.Runs.{IsRun, edits_before, run_adds}
use Rattle.format_convert.specs.declared.script.Run.{Run}
use Rattle.format_convert.proofs.RunLemmas.{run-command, run-order, run-text}
use Rattle.format_convert.proofs.Bounds.{end-low, run-low}
use Rattle.format_convert.proofs.script.put_run.Goals as goal

none : (es : List PlainEdit) (i : ℕ) (r : Run) → IsRun es i r → (b : Bool) → b ≡ (not (eqb (r.end - r.first) 0) || not (eqb r.adds 0)) → b ≡ false → first_text (blocks_of (edits_before es i)) ≡ []
none es i r run b is not_so =
    let le = run-order es i r run in
    run-text es i r run (r.end - r.first) (omega (arith, le))
    ∙ ap (λ (x : Bool). cond x (ed_command (front_block r.first (edits_before es i))) []) (sym is ∙ not_so)

some : (es : List PlainEdit) (i : ℕ) (r : Run) → IsRun es i r → (b : Bool) → b ≡ (not (eqb (r.end - r.first) 0) || not (eqb r.adds 0)) → b ≡ true → first_text (blocks_of (edits_before es i)) ≡ ed_head r.first (r.end - r.first) r.adds ++ ed_lines (run_adds es r.from i)
some es i r run b is yes-is =
    let le = run-order es i r run in
    run-text es i r run (r.end - r.first) (omega (arith, le))
    ∙ ap (λ (x : Bool). cond x (ed_command (front_block r.first (edits_before es i))) []) (sym is ∙ yes-is)
    ∙ run-command es i r run (r.end - r.first) (omega (arith, le))
    ∙ ap (λ ls. ed_head r.first (r.end - r.first) r.adds ++ ed_lines ls) run.added

pub returns-then-not-is_some : goal.returns-then-not-is_some
returns-then-not-is_some g c =
    puts-done _ (subst (λ (bs : List ℕ). HasPut g.O.Sink.view g.O.Sink.same_rest c.args.out.now c.args.out.now bs) (sym (none (edits_of c.args.text.now c.args.script.now.edits.items) c.args.end c.args.run c.requires.run c.is_some.result c.is_some.ensures c.if-not-is_some.true)) (has-none g.met.O.Sink.rest_none c.args.out.now))

pub returns-in_err-put_head : goal.returns-in_err-put_head
returns-in_err-put_head g c =
    let p = err_from_is_err_and c.from_residual.result c.from_residual.ensures.1 in
    let es = edits_of c.args.text.now c.args.script.now.edits.items in
    rw (p.1, some es c.args.end c.args.run c.requires.run c.is_some.result c.is_some.ensures c.if-not-is_some.false)
    (puts-stop c.in_err-put_head.field-0.0 p.0 (ed_lines (run_adds es c.args.run.from c.args.end)) c.in_err-put_head.ensures)

pub returns : goal.returns
returns g c =
    let es = edits_of c.args.text.now c.args.script.now.edits.items in
    rw (some es c.args.end c.args.run c.requires.run c.is_some.result c.is_some.ensures c.if-not-is_some.false)
    (puts-more g.met.O.Sink.rest_both (has-put c.in_ok-put_head.field-0 c.in_ok-put_head.ensures) c.put_run_lines.ensures)

pub put_run_lines-requires-clause-from : goal.put_run_lines-requires-clause-from
put_run_lines-requires-clause-from g c = c.requires.run.from

pub put_run_lines-requires-clause-within : goal.put_run_lines-requires-clause-within
put_run_lines-requires-clause-within g c = c.requires.within

pub put_head-requires-clause-first : goal.put_head-requires-clause-first
put_head-requires-clause-first g c = run-low c.args.run.first c.args.run.end (run-order (edits_of c.args.text.now c.args.script.now.edits.items) c.args.end c.args.run c.requires.run) c.requires.run.near

pub put_head-requires-clause-drops : goal.put_head-requires-clause-drops
put_head-requires-clause-drops g c = end-low c.args.run.first c.args.run.end c.requires.run.near

pub put_run_lines-requires-clause-adds : goal.put_run_lines-requires-clause-adds
put_run_lines-requires-clause-adds g c = c.requires.run.adds

pub put_run_lines-requires-clause-lawful : goal.put_run_lines-requires-clause-lawful
put_run_lines-requires-clause-lawful g c = c.requires.lawful

pub overflow_sub-run-2 : goal.overflow_sub-run-2
overflow_sub-run-2 g c = run-order (edits_of c.args.text.now c.args.script.now.edits.items) c.args.end c.args.run c.requires.run
