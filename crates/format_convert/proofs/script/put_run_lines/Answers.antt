use Rattle.std.proofs.Common.{◌≡◌, ◌+◌, ◌-◌, ◌++◌, ◌<◌, ◌≤◌, ℕ, List, get_or, length, sym, ap, subst, ◌∙◌, arith, rules}
use Rattle.std.specs.List.{All}
use Rattle.std.proofs.lemmas.List.{length-append, length-map}
use Rattle.std.proofs.lemmas.Result.{err_from_is_err_and}
use Rattle.hunk_core.specs.Turned.{LiesIn}
use Rattle.hunk_core.specs.PlainHunk.{bytes_at}
use Rattle.ed_form.specs.declared.script.EdEdit.{EdEdit}
use Rattle.ed_form.specs.PlainEdit.{edit_of, edits_of, lines_of}
use Rattle.format_convert.specs.Commands.{ed_lines}
use Rattle.format_convert.specs.Runs.{run_adds, text_lines}
use Rattle.format_convert.proofs.Parts.{written-all, written-more, written-none, written-stop}
use Rattle.format_convert.proofs.EdLemmas.{lines-none}
use Rattle.format_convert.proofs.ScriptLemmas.{adds-more, adds-none, edit-at, lines-both}
use Rattle.format_convert.proofs.Bounds.{falls, some-left, under}
use Rattle.format_convert.proofs.script.put_run_lines.Goals as goal

-- a command more, from the last one
pub record Step (text : List ℕ) (es : List EdEdit) (from i : ℕ) (e : EdEdit) : Type 0 where
  pub lines : run_adds (edits_of text es) from (i + 1) ≡ lines_of text e.added.items ++ run_adds (edits_of text es) from i
  pub long : length (run_adds (edits_of text es) from (i + 1)) ≡ length e.added.items + length (run_adds (edits_of text es) from i)

step : (text : List ℕ) (es : List EdEdit) (from i : ℕ) (e : EdEdit) → from ≤ i → i < length es → e ≡ get_or es i e → Step text es from i e
step text es from i e le lt is =
    let within : i < length (edits_of text es) = omega (arith, lt, length-map es (edit_of text)) in
    let more = adds-more (edits_of text es) i (edit_of text e) within (edit-at text es i e lt is) from le in
    record { lines = more; long = ap length more ∙ length-append (lines_of text e.added.items) (run_adds (edits_of text es) from i) ∙ ap (λ n. n + length (run_adds (edits_of text es) from i)) (length-map e.added.items (bytes_at text)) }

text-step : (text : List ℕ) (es : List EdEdit) (from i left : ℕ) (e : EdEdit) → from ≤ i → i < length es → e ≡ get_or es i e → left ≡ length (run_adds (edits_of text es) from i)
    → ed_lines (run_adds (edits_of text es) from (i + 1)) ≡ text_lines left (lines_of text e.added.items) ++ ed_lines (run_adds (edits_of text es) from i)
text-step text es from i left e le lt is count =
    ap ed_lines (step text es from i e le lt is).lines
    ∙ lines-both (lines_of text e.added.items) (run_adds (edits_of text es) from i)
    ∙ ap (λ n. text_lines n (lines_of text e.added.items) ++ ed_lines (run_adds (edits_of text es) from i)) (sym count)

pub loop-i-init : goal.loop-i-init
loop-i-init g c = record { put = written-none g.met.O.Sink.rest_none c.args.out.now _; from = c.requires.from; left = c.requires.adds }

-- the commands that are left, at the last of them
pub overflow_sub-left : goal.overflow_sub-left
overflow_sub-left g c =
    let text = c.args.text.now in
    let items = c.args.script.now.edits.items in
    let at : c.loop-i.i ≡ c.loop-i.i - 1 + 1 = omega (arith, c.loop-i-test.true) in
    let le : c.args.run.from ≤ c.loop-i.i - 1 = omega (arith, c.loop-i-test.true) in
    let lt : c.loop-i.i - 1 < length c.args.script.now.edits.items = omega (arith, c.loop-i-test.true, c.loop-i.auto.i, c.requires.within) in
    let count : c.len.result ≡ length c.index-edit.result.now.added.items = search rules in
    omega (arith, count, (step text items c.args.run.from (c.loop-i.i - 1) c.index-edit.result.now le lt c.index-edit.ensures).long, c.loop-i.invariant.left, ap (λ (n : ℕ). length (run_adds (edits_of text items) c.args.run.from n)) at)

pub loop-i-preserved : goal.loop-i-preserved
loop-i-preserved g c =
    let text = c.args.text.now in
    let items = c.args.script.now.edits.items in
    let i = c.loop-i.i - 1 in
    let from = c.args.run.from in
    let at : c.loop-i.i ≡ c.loop-i.i - 1 + 1 = omega (arith, c.loop-i-test.true) in
    let le : c.args.run.from ≤ c.loop-i.i - 1 = omega (arith, c.loop-i-test.true) in
    let lt : c.loop-i.i - 1 < length c.args.script.now.edits.items = omega (arith, c.loop-i-test.true, c.loop-i.auto.i, c.requires.within) in
    let e = c.index-edit.result.now in
    let count : c.len.result ≡ length c.index-edit.result.now.added.items = search rules in
    let left : c.loop-i.left - c.len.result ≡ length (run_adds (edits_of c.args.text.now c.args.script.now.edits.items) c.args.run.from (c.loop-i.i - 1)) = omega (arith, count, (step text items from i e le lt c.index-edit.ensures).long, c.loop-i.invariant.left, ap (λ (n : ℕ). length (run_adds (edits_of text items) from n)) at) in
    record {
      put = written-more g.met.O.Sink.rest_both c.loop-i.invariant.put (text_lines (c.loop-i.left - c.len.result) (lines_of text e.added.items)) (ed_lines (run_adds (edits_of text items) from i))
          (ap (λ (n : ℕ). ed_lines (run_adds (edits_of text items) from n)) at ∙ text-step text items from i (c.loop-i.left - c.len.result) e le lt c.index-edit.ensures left)
          c.in_ok-put_lines.field-0 c.in_ok-put_lines.ensures;
      from = le;
      left = left;
    }

pub returns-in_err-put_lines : goal.returns-in_err-put_lines
returns-in_err-put_lines g c =
    let p = err_from_is_err_and c.from_residual.result c.from_residual.ensures.1 in
    let text = c.args.text.now in
    let items = c.args.script.now.edits.items in
    let i = c.loop-i.i - 1 in
    let from = c.args.run.from in
    let at : c.loop-i.i ≡ c.loop-i.i - 1 + 1 = omega (arith, c.loop-i-test.true) in
    let le : c.args.run.from ≤ c.loop-i.i - 1 = omega (arith, c.loop-i-test.true) in
    let lt : c.loop-i.i - 1 < length c.args.script.now.edits.items = omega (arith, c.loop-i-test.true, c.loop-i.auto.i, c.requires.within) in
    let e = c.index-edit.result.now in
    let count : c.len.result ≡ length c.index-edit.result.now.added.items = search rules in
    let left : c.loop-i.left - c.len.result ≡ length (run_adds (edits_of c.args.text.now c.args.script.now.edits.items) c.args.run.from (c.loop-i.i - 1)) = omega (arith, count, (step text items from i e le lt c.index-edit.ensures).long, c.loop-i.invariant.left, ap (λ (n : ℕ). length (run_adds (edits_of text items) from n)) at) in
    rw p.1 (written-stop g.met.O.Sink.rest_both c.loop-i.invariant.put (text_lines (c.loop-i.left - c.len.result) (lines_of text e.added.items)) (ed_lines (run_adds (edits_of text items) from i))
    (ap (λ (n : ℕ). ed_lines (run_adds (edits_of text items) from n)) at ∙ text-step text items from i (c.loop-i.left - c.len.result) e le lt c.index-edit.ensures left)
    c.in_err-put_lines.field-0.0 p.0 c.in_err-put_lines.ensures)

pub returns : goal.returns
returns g c =
    let es = edits_of c.args.text.now c.args.script.now.edits.items in
    let same : c.loop-i.i ≡ c.args.run.from = omega (arith, c.loop-i-test.false, c.loop-i.invariant.from) in
    written-all _ c.loop-i.invariant.put (ap (λ (n : ℕ). ed_lines (run_adds es c.args.run.from n)) same ∙ ap ed_lines (adds-none es c.args.run.from) ∙ lines-none)

pub put_lines-requires : goal.put_lines-requires
put_lines-requires g c = subst (λ (e : EdEdit). All (LiesIn c.args.text.now) e.added.items) (sym c.index-edit.ensures) (c.requires.lawful.within (c.loop-i.i - 1) c.index-edit.result.now (under c.loop-i.i c.args.run.from c.args.end _ c.loop-i-test.true c.loop-i.auto.i c.requires.within))

pub loop-i-smaller : goal.loop-i-smaller
loop-i-smaller g c = falls c.loop-i.i c.args.run.from c.loop-i-test.true

pub overflow_step-i : goal.overflow_step-i
overflow_step-i g c = some-left c.loop-i.i c.args.run.from c.loop-i-test.true
