use Rattle.std.proofs.Common.{arith, ap, sym, ◌∙◌}
use Rattle.line_list.proofs.Elements.{found}
use Rattle.hunk_core.specs.PlainHunk.{bytes_at}
use Rattle.filter_choice.proofs.Placed.{span-in, turn-with}
use Rattle.patch_filters.proofs.Flagged.{piece-at}
use Rattle.patch_filters.proofs.row_parts.piece.Goals as goal

pub index-span-requires : goal.index-span-requires
index-span-requires c = omega (arith, c.requires.hunk, c.requires.row.is.placed.each)

pub bytes_at-requires-clause-order : goal.bytes_at-requires-clause-order
bytes_at-requires-clause-order c =
    let r = c.args.row.now in
    let p = r.row.now in
    let s = c.index-span.result.now in
    let spans = p.hunk_spans.items in
    omega (
      arith,
      (span-in p.header.at spans p.span.end c.args.hunk s (turn-with r.set.now.text p.span.start p.first_verdict p c.args.hunk c.requires.row.is.placed c.requires.hunk) (found spans c.args.hunk s (omega (arith, c.requires.hunk, c.requires.row.is.placed.each)) c.index-span.ensures)).0,
    )

pub bytes_at-requires-clause-within : goal.bytes_at-requires-clause-within
bytes_at-requires-clause-within c =
    let r = c.args.row.now in
    let p = r.row.now in
    let s = c.index-span.result.now in
    let spans = p.hunk_spans.items in
    rw c.text.ensures (omega (
      arith,
      (span-in p.header.at spans p.span.end c.args.hunk s (turn-with r.set.now.text p.span.start p.first_verdict p c.args.hunk c.requires.row.is.placed c.requires.hunk) (found spans c.args.hunk s (omega (arith, c.requires.hunk, c.requires.row.is.placed.each)) c.index-span.ensures)).1,
      c.requires.row.is.placed.high,
    ))

pub returns : goal.returns
returns c =
    let r = c.args.row.now in
    let p = r.row.now in
    let s = c.index-span.result.now in
    let here = found p.hunk_spans.items c.args.hunk s (omega (arith, c.requires.hunk, c.requires.row.is.placed.each)) c.index-span.ensures in
    c.bytes_at.ensures ∙ ap (λ t. bytes_at t s) c.text.ensures ∙ sym (piece-at r.set.now.text p c.args.hunk s here)
