use Rattle.std.proofs.Common.{◌≡◌, ◌+◌, ◌++◌, ◌<◌, ◌≤◌, ◌||◌, ℕ, List, Bool, not, eqb, drop, get_or, length, sym, ap, subst, ◌∙◌, arith, rules}
use Rattle.std.specs.Prelude.{nat_lt}
use Rattle.std.proofs.lemmas.Result.{err_from_is_err_and}
use Rattle.line_list.specs.declared.Span.{Span}
use Rattle.hunk_core.specs.PlainHunk.{bytes_at}
use Rattle.hunk_core.specs.Turned.{LiesIn}
use Rattle.ed_form.specs.PlainEdit.{lines_of}
use Rattle.format_convert.specs.Commands.{ed_line}
use Rattle.format_convert.specs.Runs.{text_lines}
use Rattle.format_convert.proofs.Parts.{written-all, written-more, written-none, written-stop}
use Rattle.format_convert.proofs.ScriptLemmas.{line-last, line-next}
use Rattle.format_convert.proofs.Bounds.{next-fits}
use Rattle.format_convert.proofs.script.put_lines.Goals as goal

-- the next line as it is written
step : (text : List ℕ) (left : ℕ) (items : List Span) (i count : ℕ) (s : Span) (line : List ℕ) (more : Bool) → i < length items → s ≡ get_or items i s → count ≡ length items → line ≡ bytes_at text s → more ≡ (nat_lt (i + 1) count || not (eqb left 0))
    → text_lines left (lines_of text (drop i items)) ≡ ed_line line more ++ text_lines left (lines_of text (drop (i + 1) items))
step text left items i count s line more lt is long same goes =
    let rest = text_lines left (lines_of text (drop (i + 1) items)) in
    line-next text left items i s lt is
    ∙ ap (λ (n : ℕ). ed_line (bytes_at text s) (nat_lt (i + 1) n || not (eqb left 0)) ++ rest) (sym long)
    ∙ ap (λ (b : Bool). ed_line (bytes_at text s) b ++ rest) (sym goes)
    ∙ ap (λ (bs : List ℕ). ed_line bs more ++ rest) (sym same)

pub loop-i-init : goal.loop-i-init
loop-i-init g c = written-none g.met.O.Sink.rest_none c.args.out.now _

pub line_at-requires : goal.line_at-requires
line_at-requires g c =
    let lt : c.loop-i.i < length c.args.edit.now.added.items = search rules in
    subst (LiesIn c.args.text.now) (sym c.index.ensures) (c.requires c.loop-i.i c.index.result.now lt)

pub loop-i-preserved : goal.loop-i-preserved
loop-i-preserved g c =
    let text = c.args.text.now in
    let items = c.args.edit.now.added.items in
    let i = c.loop-i.i in
    let count : c.len-count.result ≡ length c.args.edit.now.added.items = search rules in
    let lt : c.loop-i.i < length c.args.edit.now.added.items = omega (arith, c.loop-i-test.true, count) in
    written-more g.met.O.Sink.rest_both c.loop-i.invariant (ed_line c.line_at.result.now c.goes_on.result) (text_lines c.args.behind (lines_of text (drop (i + 1) items)))
    (step text c.args.behind items i c.len-count.result c.index.result.now c.line_at.result.now c.goes_on.result lt c.index.ensures count c.line_at.ensures c.goes_on.ensures)
    c.in_ok-put_text_line.field-0 c.in_ok-put_text_line.ensures

pub returns-in_err-put_text_line : goal.returns-in_err-put_text_line
returns-in_err-put_text_line g c =
    let p = err_from_is_err_and c.from_residual.result c.from_residual.ensures.1 in
    let text = c.args.text.now in
    let items = c.args.edit.now.added.items in
    let i = c.loop-i.i in
    let count : c.len-count.result ≡ length c.args.edit.now.added.items = search rules in
    let lt : c.loop-i.i < length c.args.edit.now.added.items = omega (arith, c.loop-i-test.true, count) in
    rw p.1 (written-stop g.met.O.Sink.rest_both c.loop-i.invariant (ed_line c.line_at.result.now c.goes_on.result) (text_lines c.args.behind (lines_of text (drop (i + 1) items)))
    (step text c.args.behind items i c.len-count.result c.index.result.now c.line_at.result.now c.goes_on.result lt c.index.ensures count c.line_at.ensures c.goes_on.ensures)
    c.in_err-put_text_line.field-0.0 p.0 c.in_err-put_text_line.ensures)

pub returns : goal.returns
returns g c =
    let count : c.len-count.result ≡ length c.args.edit.now.added.items = search rules in
    let end : length c.args.edit.now.added.items ≤ c.loop-i.i = omega (arith, c.loop-i-test.false, count) in
    written-all _ c.loop-i.invariant (line-last c.args.text.now c.args.behind c.args.edit.now.added.items c.loop-i.i end)

pub overflow_add-i : goal.overflow_add-i
overflow_add-i g c = next-fits c.loop-i.i _ c.loop-i-test.true c.len-count.type_inv
