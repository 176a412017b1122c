use Rattle.std.proofs.Common.{arith, ap, sym, ◌∙◌}
use Rattle.line_list.proofs.Elements.{found}
use Rattle.filter_choice.proofs.Placed.{span-in, turn-with}
use Rattle.patch_filters.specs.HunkLines.{feeds}
use Rattle.patch_filters.proofs.Flagged.{piece-at}
use Rattle.patch_filters.proofs.hunk_lines.hunk_feeds.Goals as goal

pub bytes_at-requires-clause-order : goal.bytes_at-requires-clause-order
bytes_at-requires-clause-order c =
    let p = c.args.patch.now in
    let s = c.index-span.result.now in
    let spans = p.hunk_spans.items in
    omega (
      arith,
      (span-in p.header.at spans p.span.end c.args.hunk s (turn-with c.args.text.now p.span.start p.first_verdict p c.args.hunk c.requires.placed c.requires.within) (found spans c.args.hunk s (omega (arith, c.requires.within, c.requires.placed.each)) c.index-span.ensures)).0,
    )

pub bytes_at-requires-clause-within : goal.bytes_at-requires-clause-within
bytes_at-requires-clause-within c =
    let p = c.args.patch.now in
    let s = c.index-span.result.now in
    let spans = p.hunk_spans.items in
    omega (
      arith,
      (span-in p.header.at spans p.span.end c.args.hunk s (turn-with c.args.text.now p.span.start p.first_verdict p c.args.hunk c.requires.placed c.requires.within) (found spans c.args.hunk s (omega (arith, c.requires.within, c.requires.placed.each)) c.index-span.ensures)).1,
      c.requires.placed.high,
    )

pub returns : goal.returns
returns c =
    let p = c.args.patch.now in
    let s = c.index-span.result.now in
    let here = found p.hunk_spans.items c.args.hunk s (omega (arith, c.requires.within, c.requires.placed.each)) c.index-span.ensures in
    c.count_feeds.ensures ∙ ap feeds (c.bytes_at.ensures ∙ sym (piece-at c.args.text.now p c.args.hunk s here))

pub index-span-requires : goal.index-span-requires
index-span-requires c = omega (arith, c.requires.within, c.requires.placed.each)
