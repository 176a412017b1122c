use Rattle.std.proofs.Common.{rules, ◌≡◌, ◌+◌, ◌<◌, ◌++◌, false, [], length, get_or, Ok, Err, ap, subst, ◌∙◌, arith}
use Rattle.std.specs.List.{zip}
use Rattle.std.proofs.lemmas.Option.{slice_get-get_or}
use Rattle.read_file_patch.specs.PlainPatch.{change_of, row_count}
use Rattle.filter_choice.proofs.Rows.{zip-at, zip-count}
use Rattle.patch_set.proofs.Named.{rows-counted}
use Rattle.patch_filters.specs.Filtered.{text_if}
use Rattle.patch_filters.specs.Grepped.{Finds, hits_of, test_of}
use Rattle.patch_filters.specs.HunkLines.{hunk_line, hunk_lines}
use Rattle.patch_filters.proofs.Begun.{hunk-lines-long, line-few, line-next, shown-at}
use Rattle.patch_filters.proofs.Searching.{same-test, still-kept}
use Rattle.patch_filters.proofs.Finding.{by-first, ends-in, found-ends, found-goes-on, found-none, found-stops}
use Rattle.patch_filters.proofs.Hits.{few-rows, hits-long}
use Rattle.patch_filters.proofs.grep.put_hit_lines.Goals as goal

pub loop-hunk-init : goal.loop-hunk-init
loop-hunk-init g c = (found-none g.met.O.Sink.rest_none (g.F.Finder.view c.args.finder.now) c.args.out.now, c.first_line-line.ensures)

pub loop-hunk-preserved : goal.loop-hunk-preserved
loop-hunk-preserved g c =
    let label = c.args.shown.now.hunk_label.items in
    let text = c.args.text.now in
    let p = c.args.patch.now in
    let test = test_of (g.F.Finder.view c.args.finder.now) in
    let flags = hits_of c.args.searched test (change_of text p.change) in
    let i = c.loop-hunk.hunk in
    let rows = zip flags (hunk_lines label text p) in
    let line = label ++ hunk_line c.loop-hunk.line (i + 1) in
    let lt : i < length p.hunk_spans.items = omega (arith, c.loop-hunk-test.true, c.hunks-hunk-end.ensures text, rows-counted text p.change, c.requires.placed.each) in
    let same : length flags ≡ length (hunk_lines label text p) = omega (arith, hits-long c.args.searched test text p.change, c.requires.placed.each, hunk-lines-long text p label) in
    let within : i < length rows = omega (arith, lt, zip-count flags (hunk_lines label text p) same, hunk-lines-long text p label) in
    let at = zip-at flags (hunk_lines label text p) i _ _ (slice_get-get_or flags i false (omega (arith, lt, same, hunk-lines-long text p label))) (shown-at text p label i c.loop-hunk.line lt c.loop-hunk.invariant.1) in
    let told = c.as_slice.ensures.value ∙ c.hunk_line-own.ensures ∙ ap (λ n. hunk_line c.loop-hunk.line (n + 1)) c.from.ensures in
    let put = by-first (λ hit. text_if (get_or (hits_of c.args.searched hit (change_of text p.change)) i false, line)) c.loop-hunk.invariant.0.finder
    (subst (λ t. Finds {R = Unit {0}} g.O.Sink.view g.O.Sink.same_rest (g.F.Finder.view c.loop-hunk.finder) (g.F.Finder.view c.put_line_if_hit.new.finder) c.loop-hunk.out c.put_line_if_hit.new.out (Ok c.in_ok-put_line_if_hit.field-0) (text_if (get_or (hits_of c.args.searched (test_of (g.F.Finder.view c.loop-hunk.finder)) (change_of text p.change)) i false, label ++ t))) told c.in_ok-put_line_if_hit.ensures) in (
      found-goes-on text_if rows g.met.O.Sink.rest_both [] i (get_or flags i false, line) c.in_ok-put_line_if_hit.field-0 within at c.loop-hunk.invariant.0 put,
      line-next text p i c.loop-hunk.line c.hunk_feeds-line.result lt c.loop-hunk.invariant.1 c.hunk_feeds-line.ensures,
    )

pub returns-in_err-put_line_if_hit : goal.returns-in_err-put_line_if_hit
returns-in_err-put_line_if_hit g c =
    let label = c.args.shown.now.hunk_label.items in
    let text = c.args.text.now in
    let p = c.args.patch.now in
    let test = test_of (g.F.Finder.view c.args.finder.now) in
    let flags = hits_of c.args.searched test (change_of text p.change) in
    let i = c.loop-hunk.hunk in
    let rows = zip flags (hunk_lines label text p) in
    let line = label ++ hunk_line c.loop-hunk.line (i + 1) in
    let lt : i < length p.hunk_spans.items = omega (arith, c.loop-hunk-test.true, c.hunks-hunk-end.ensures text, rows-counted text p.change, c.requires.placed.each) in
    let same : length flags ≡ length (hunk_lines label text p) = omega (arith, hits-long c.args.searched test text p.change, c.requires.placed.each, hunk-lines-long text p label) in
    let within : i < length rows = omega (arith, lt, zip-count flags (hunk_lines label text p) same, hunk-lines-long text p label) in
    let at = zip-at flags (hunk_lines label text p) i _ _ (slice_get-get_or flags i false (omega (arith, lt, same, hunk-lines-long text p label))) (shown-at text p label i c.loop-hunk.line lt c.loop-hunk.invariant.1) in
    let told = c.as_slice.ensures.value ∙ c.hunk_line-own.ensures ∙ ap (λ n. hunk_line c.loop-hunk.line (n + 1)) c.from.ensures in
    let put = by-first (λ hit. text_if (get_or (hits_of c.args.searched hit (change_of text p.change)) i false, line)) c.loop-hunk.invariant.0.finder
    (subst (λ t. Finds {R = Unit {0}} g.O.Sink.view g.O.Sink.same_rest (g.F.Finder.view c.loop-hunk.finder) (g.F.Finder.view c.put_line_if_hit.new.finder) c.loop-hunk.out c.put_line_if_hit.new.out (Err c.in_err-put_line_if_hit.field-0.0) (text_if (get_or (hits_of c.args.searched (test_of (g.F.Finder.view c.loop-hunk.finder)) (change_of text p.change)) i false, label ++ t))) told c.in_err-put_line_if_hit.ensures) in
    ends-in c.from_residual.result c.in_err-put_line_if_hit.field-0.0 c.from_residual.ensures.1
    (found-stops text_if rows g.met.O.Sink.rest_both [] i (get_or flags i false, line) c.in_err-put_line_if_hit.field-0.0 within at c.loop-hunk.invariant.0 put)

pub returns : goal.returns
returns g c =
    let label = c.args.shown.now.hunk_label.items in
    let text = c.args.text.now in
    let p = c.args.patch.now in
    let test = test_of (g.F.Finder.view c.args.finder.now) in
    let flags = hits_of c.args.searched test (change_of text p.change) in
    let rows = zip flags (hunk_lines label text p) in
    let same : length flags ≡ length (hunk_lines label text p) = omega (arith, hits-long c.args.searched test text p.change, c.requires.placed.each, hunk-lines-long text p label) in
    let end : c.loop-hunk.hunk ≡ length rows = omega (arith, c.loop-hunk-test.false, c.loop-hunk.auto.hunk-end, c.hunks-hunk-end.ensures text, rows-counted text p.change, c.requires.placed.each, zip-count flags (hunk_lines label text p) same, hunk-lines-long text p label) in
    found-ends text_if rows g.met.O.Sink.rest_both [] c.loop-hunk.hunk tt end c.loop-hunk.invariant.0

pub put_line_if_hit-requires-clause-kept : goal.put_line_if_hit-requires-clause-kept
put_line_if_hit-requires-clause-kept g c = still-kept c.loop-hunk.invariant.0.finder c.requires.kept

pub put_line_if_hit-requires-clause-within : goal.put_line_if_hit-requires-clause-within
put_line_if_hit-requires-clause-within g c = omega (arith, c.loop-hunk-test.true, c.hunks-hunk-end.ensures c.args.text.now, rows-counted c.args.text.now c.args.patch.now.change)

pub put_line_if_hit-requires-clause-lawful : goal.put_line_if_hit-requires-clause-lawful
put_line_if_hit-requires-clause-lawful g c = c.requires.lawful

pub put_line_if_hit-requires-clause-first : goal.put_line_if_hit-requires-clause-first
put_line_if_hit-requires-clause-first g c = rw (same-test c.loop-hunk.invariant.0.finder) c.requires.first

pub hunks-hunk-end-requires : goal.hunks-hunk-end-requires
hunks-hunk-end-requires g c = few-rows c.args.text.now c.args.patch.now.change c.requires.lawful

pub overflow_add-line : goal.overflow_add-line
overflow_add-line g c =
    let label = c.args.shown.now.hunk_label.items in
    let text = c.args.text.now in
    let p = c.args.patch.now in
    let i = c.loop-hunk.hunk in
    let row : i < row_count p.change = omega (arith, c.loop-hunk-test.true, c.hunks-hunk-end.ensures text, rows-counted text p.change) in
    let lt : i < length p.hunk_spans.items = omega (arith, row, c.requires.placed.each) in
    search (rules, line-next text p i c.loop-hunk.line c.hunk_feeds-line.result lt c.loop-hunk.invariant.1 c.hunk_feeds-line.ensures, line-few text p.span.start p.first_verdict p i (i + 1) c.requires.placed row)
