use Rattle.std.proofs.Common.{◌≡◌, true, false, arith, get_or, sym, subst, ◌∙◌}
use Rattle.line_list.proofs.Elements.{found}
use Rattle.outside.specs.Puts.{Puts}
use Rattle.outside.proofs.SinkSteps.{has-none, puts-done}
use Rattle.cli_tool_words.specs.PlainJobs.{plain_filter_job}
use Rattle.filter_choice.proofs.Placed.{span-in, turn-of}
use Rattle.patch_filters.specs.Digested.{digest_kept}
use Rattle.patch_filters.proofs.Flagged.{piece-at}
use Rattle.patch_filters.proofs.filter.put_if_kept.Goals as goal

pub returns-then-not-is_row_kept : goal.returns-then-not-is_row_kept
returns-then-not-is_row_kept g c =
    let left_out : get_or (digest_kept (plain_filter_job c.args.job.now) c.args.text.now c.args.patch.now c.args.olds.now) c.args.hunk false ≡ false = sym c.is_row_kept.ensures ∙ c.if-not-is_row_kept.true in
    rw left_out (puts-done _ (has-none g.met.O.Sink.rest_none c.args.out.now))

pub returns : goal.returns
returns g c =
    let p = c.args.patch.now in
    let s = c.index-span.result.now in
    let here = found p.hunk_spans.items c.args.hunk s c.requires.within c.index-span.ensures in
    let kept : get_or (digest_kept (plain_filter_job c.args.job.now) c.args.text.now c.args.patch.now c.args.olds.now) c.args.hunk false ≡ true = sym c.is_row_kept.ensures ∙ c.if-not-is_row_kept.false in
    rw kept (subst (Puts g.O.Sink.view g.O.Sink.same_rest c.args.out.now c.put_piece.new.out c.put_piece.result) (c.bytes_at.ensures ∙ sym (piece-at c.args.text.now p c.args.hunk s here)) c.put_piece.ensures)

pub is_row_kept-requires-clause-digest : goal.is_row_kept-requires-clause-digest
is_row_kept-requires-clause-digest g c = c.requires.digest

pub is_row_kept-requires-clause-within : goal.is_row_kept-requires-clause-within
is_row_kept-requires-clause-within g c = c.requires.within

pub bytes_at-requires-clause-order : goal.bytes_at-requires-clause-order
bytes_at-requires-clause-order g c =
    let p = c.args.patch.now in
    let s = c.index-span.result.now in
    let spans = p.hunk_spans.items in
    omega (arith, (span-in p.header.at spans p.span.end c.args.hunk s (turn-of p.header spans p.span.end c.args.hunk c.requires.digest.cut c.requires.within) (found spans c.args.hunk s c.requires.within c.index-span.ensures)).0)

pub bytes_at-requires-clause-within : goal.bytes_at-requires-clause-within
bytes_at-requires-clause-within g c =
    let p = c.args.patch.now in
    let s = c.index-span.result.now in
    let spans = p.hunk_spans.items in
    omega (arith, (span-in p.header.at spans p.span.end c.args.hunk s (turn-of p.header spans p.span.end c.args.hunk c.requires.digest.cut c.requires.within) (found spans c.args.hunk s c.requires.within c.index-span.ensures)).1, c.requires.digest.high)

pub index-span-requires : goal.index-span-requires
index-span-requires g c = omega (arith, c.requires.within)
