use Rattle.std.proofs.Common.{◌≡◌, ◌<◌, false, [], length, get_or, refl, arith}
use Rattle.std.proofs.lemmas.Result.{err_from_is_err_and}
use Rattle.cli_tool_words.specs.PlainJobs.{plain_filter_job}
use Rattle.patch_filters.specs.Digested.{digest_kept}
use Rattle.patch_filters.specs.Filtered.{chosen, pieces, text_if}
use Rattle.outside.proofs.Loops.{goes-on, stops, ends}
use Rattle.patch_filters.proofs.Flagged.{rows, rows-long, row-at}
use Rattle.patch_filters.proofs.Digesting.{digest-long}
use Rattle.outside.proofs.SinkSteps.{has-none, has-put, puts-more, puts-stop}
use Rattle.patch_filters.proofs.filter.put_parts.Goals as goal

pub returns-in_err-put_piece : goal.returns-in_err-put_piece
returns-in_err-put_piece g c =
    let p = err_from_is_err_and c.from_residual.result c.from_residual.ensures.1 in
    rw p.1 (puts-stop c.in_err-put_piece.field-0.0 p.0 (chosen (digest_kept (plain_filter_job c.args.job.now) c.args.text.now c.args.patch.now c.args.olds.now) (pieces c.args.text.now c.args.patch.now)) c.in_err-put_piece.ensures)

pub returns-in_err-put_if_kept : goal.returns-in_err-put_if_kept
returns-in_err-put_if_kept g c =
    let j = plain_filter_job c.args.job.now in
    let text = c.args.text.now in
    let p = c.args.patch.now in
    let count = length p.hunk_spans.items in
    let flags = digest_kept j text p c.args.olds.now in
    let long = digest-long j text p c.args.olds.now c.requires in
    let xs = rows flags text p count refl long in
    let lt : c.loop-hunk.hunk < count = omega (arith, c.loop-hunk-test.true) in
    let q = err_from_is_err_and c.from_residual-in_err-put_if_kept.result c.from_residual-in_err-put_if_kept.ensures.1 in
    rw q.1 (puts-more g.met.O.Sink.rest_both (has-put c.in_ok-put_piece.field-0 c.in_ok-put_piece.ensures) (stops text_if xs g.met.O.Sink.rest_both c.loop-hunk.hunk (get_or flags c.loop-hunk.hunk false, get_or (pieces text p) c.loop-hunk.hunk []) c.in_err-put_if_kept.field-0.0 q.0
    (omega (arith, lt, rows-long flags text p count refl long)) (row-at flags text p count refl long c.loop-hunk.hunk lt) c.loop-hunk.invariant c.in_err-put_if_kept.ensures))

pub loop-hunk-preserved : goal.loop-hunk-preserved
loop-hunk-preserved g c =
    let j = plain_filter_job c.args.job.now in
    let text = c.args.text.now in
    let p = c.args.patch.now in
    let count = length p.hunk_spans.items in
    let flags = digest_kept j text p c.args.olds.now in
    let long = digest-long j text p c.args.olds.now c.requires in
    let xs = rows flags text p count refl long in
    let lt : c.loop-hunk.hunk < count = omega (arith, c.loop-hunk-test.true) in
    goes-on text_if xs g.met.O.Sink.rest_both c.loop-hunk.hunk (get_or flags c.loop-hunk.hunk false, get_or (pieces text p) c.loop-hunk.hunk []) c.in_ok-put_if_kept.field-0
    (omega (arith, lt, rows-long flags text p count refl long)) (row-at flags text p count refl long c.loop-hunk.hunk lt) c.loop-hunk.invariant c.in_ok-put_if_kept.ensures

pub returns : goal.returns
returns g c =
    let j = plain_filter_job c.args.job.now in
    let text = c.args.text.now in
    let p = c.args.patch.now in
    let count = length p.hunk_spans.items in
    let flags = digest_kept j text p c.args.olds.now in
    let long = digest-long j text p c.args.olds.now c.requires in
    let xs = rows flags text p count refl long in
    let end : c.loop-hunk.hunk ≡ length xs = omega (arith, c.loop-hunk-test.false, c.loop-hunk.auto.hunk-end, rows-long flags text p count refl long) in
    puts-more g.met.O.Sink.rest_both (has-put c.in_ok-put_piece.field-0 c.in_ok-put_piece.ensures) (ends text_if xs g.met.O.Sink.rest_both c.loop-hunk.hunk _ end c.loop-hunk.invariant)

pub loop-hunk-init : goal.loop-hunk-init
loop-hunk-init g c = has-none g.met.O.Sink.rest_none c.put_piece.new.out

pub put_if_kept-requires-clause-within : goal.put_if_kept-requires-clause-within
put_if_kept-requires-clause-within g c = omega (arith, c.loop-hunk-test.true)

pub put_if_kept-requires-clause-digest : goal.put_if_kept-requires-clause-digest
put_if_kept-requires-clause-digest g c = c.requires
