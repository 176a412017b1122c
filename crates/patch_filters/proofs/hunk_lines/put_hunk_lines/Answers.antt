use Rattle.std.proofs.Common.{rules, ◌≡◌, ◌+◌, ◌<◌, ◌++◌, length, Ok, Err, ap, subst, ◌∙◌, arith}
use Rattle.std.proofs.lemmas.Result.{err_from_is_err_and}
use Rattle.outside.specs.Puts.{Puts}
use Rattle.outside.proofs.SinkSteps.{has-none}
use Rattle.outside.proofs.Loops.{goes-on, stops, ends}
use Rattle.read_file_patch.specs.PlainPatch.{row_count}
use Rattle.patch_set.proofs.Named.{rows-counted}
use Rattle.patch_filters.specs.HunkLines.{hunk_line, hunk_lines}
use Rattle.patch_filters.proofs.Begun.{hunk-lines-long, line-few, line-next, shown-at}
use Rattle.patch_filters.proofs.Hits.{few-rows}
use Rattle.patch_filters.proofs.hunk_lines.put_hunk_lines.Goals as goal

pub loop-hunk-init : goal.loop-hunk-init
loop-hunk-init g c = (has-none g.met.O.Sink.rest_none c.args.out.now, c.first_line-line.ensures)

pub loop-hunk-preserved : goal.loop-hunk-preserved
loop-hunk-preserved g c =
    let label = c.args.shown.now.hunk_label.items in
    let text = c.args.text.now in
    let p = c.args.patch.now in
    let i = c.loop-hunk.hunk in
    let lt : i < length p.hunk_spans.items = omega (arith, c.loop-hunk-test.true, c.hunks-hunk-end.ensures text, rows-counted text p.change, c.requires.placed.each) in
    let put = subst (Puts {R = Unit {0}} g.O.Sink.view g.O.Sink.same_rest c.loop-hunk.out c.put_labelled.new.out (Ok c.in_ok-put_labelled.field-0)) (ap (λ l. label ++ l) (c.as_slice.ensures.value ∙ c.hunk_line-own.ensures ∙ ap (λ n. hunk_line c.loop-hunk.line (n + 1)) c.from.ensures)) c.in_ok-put_labelled.ensures in (
      goes-on (λ line. line) (hunk_lines label text p) g.met.O.Sink.rest_both i (label ++ hunk_line c.loop-hunk.line (i + 1)) c.in_ok-put_labelled.field-0 (omega (arith, lt, hunk-lines-long text p label)) (shown-at text p label i c.loop-hunk.line lt c.loop-hunk.invariant.1) c.loop-hunk.invariant.0 put,
      line-next text p i c.loop-hunk.line c.hunk_feeds-line.result lt c.loop-hunk.invariant.1 c.hunk_feeds-line.ensures,
    )

pub returns-in_err-put_labelled : goal.returns-in_err-put_labelled
returns-in_err-put_labelled g c =
    let label = c.args.shown.now.hunk_label.items in
    let text = c.args.text.now in
    let p = c.args.patch.now in
    let i = c.loop-hunk.hunk in
    let lt : i < length p.hunk_spans.items = omega (arith, c.loop-hunk-test.true, c.hunks-hunk-end.ensures text, rows-counted text p.change, c.requires.placed.each) in
    let q = err_from_is_err_and c.from_residual.result c.from_residual.ensures.1 in
    let put = subst (Puts {R = Unit {0}} g.O.Sink.view g.O.Sink.same_rest c.loop-hunk.out c.put_labelled.new.out (Err c.in_err-put_labelled.field-0.0)) (ap (λ l. label ++ l) (c.as_slice.ensures.value ∙ c.hunk_line-own.ensures ∙ ap (λ n. hunk_line c.loop-hunk.line (n + 1)) c.from.ensures)) c.in_err-put_labelled.ensures in
    rw q.1 (stops (λ line. line) (hunk_lines label text p) g.met.O.Sink.rest_both i (label ++ hunk_line c.loop-hunk.line (i + 1)) c.in_err-put_labelled.field-0.0 q.0 (omega (arith, lt, hunk-lines-long text p label)) (shown-at text p label i c.loop-hunk.line lt c.loop-hunk.invariant.1) c.loop-hunk.invariant.0 put)

pub returns : goal.returns
returns g c =
    let label = c.args.shown.now.hunk_label.items in
    let text = c.args.text.now in
    let p = c.args.patch.now in
    let end : c.loop-hunk.hunk ≡ length (hunk_lines label text p) = omega (arith, c.loop-hunk-test.false, c.loop-hunk.auto.hunk-end, c.hunks-hunk-end.ensures text, rows-counted text p.change, c.requires.placed.each, hunk-lines-long text p label) in
    ends (λ line. line) (hunk_lines label text p) g.met.O.Sink.rest_both c.loop-hunk.hunk _ end c.loop-hunk.invariant.0

pub hunks-hunk-end-requires : goal.hunks-hunk-end-requires
hunks-hunk-end-requires g c = few-rows c.args.text.now c.args.patch.now.change c.requires.lawful

pub overflow_add-line : goal.overflow_add-line
overflow_add-line g c =
    let label = c.args.shown.now.hunk_label.items in
    let text = c.args.text.now in
    let p = c.args.patch.now in
    let i = c.loop-hunk.hunk in
    let row : i < row_count p.change = omega (arith, c.loop-hunk-test.true, c.hunks-hunk-end.ensures text, rows-counted text p.change) in
    let lt : i < length p.hunk_spans.items = omega (arith, row, c.requires.placed.each) in
    search (rules, line-next text p i c.loop-hunk.line c.hunk_feeds-line.result lt c.loop-hunk.invariant.1 c.hunk_feeds-line.ensures, line-few text p.span.start p.first_verdict p i (i + 1) c.requires.placed row)
