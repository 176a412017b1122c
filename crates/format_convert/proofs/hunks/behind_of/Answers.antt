use Rattle.std.proofs.Common.{◌≡◌, ◌<◌, ◌≤◌, ℕ, List, [], get_or, length, sym, ap, subst, ◌∙◌, arith}
use Rattle.std.proofs.lemmas.Option.{same_Some}
use Rattle.line_list.proofs.Elements.{found}
use Rattle.hunk_core.specs.PlainHunk.{bytes_at}
use Rattle.read_file_patch.specs.declared.FilePatch.{FilePatch}
use Rattle.read_file_patch.specs.PlainPatch.{row_count}
use Rattle.filter_choice.proofs.Placed.{span-in, turn-with}
use Rattle.format_convert.specs.Behind.{behind_in}
use Rattle.format_convert.specs.Converted.{pieces}
use Rattle.format_convert.proofs.RowLemmas.{piece-at}
use Rattle.format_convert.proofs.hunks.behind_of.Goals as goal

pub index-span-requires : goal.index-span-requires
index-span-requires c = omega (arith, c.requires.number c.patch_at-row.result.now c.patch_at-row.ensures.is, c.patch_at-row.ensures.placed.each)

pub line_at-requires : goal.line_at-requires
line_at-requires c =
    let p = c.patch_at-row.result.now in
    let s = c.index-span.result.now in
    let placed = c.patch_at-row.ensures.placed in
    let lt : c.args.number < row_count p.change = c.requires.number p c.patch_at-row.ensures.is in
    let here = found p.hunk_spans.items c.args.number s (omega (arith, lt, placed.each)) c.index-span.ensures in
    let inside = span-in p.header.at p.hunk_spans.items p.span.end c.args.number s (turn-with c.args.set.now.text p.span.start p.first_verdict p c.args.number placed lt) here in
    (omega (arith, inside.0), subst (λ (t : List ℕ). s.end ≤ length t) (sym c.text.ensures) (omega (arith, inside.1, placed.high)))

pub returns : goal.returns
returns c = λ x at.
    let p = c.patch_at-row.result.now in
    let s = c.index-span.result.now in
    let text = c.args.set.now.text in
    let lt : c.args.number < row_count p.change = c.requires.number p c.patch_at-row.ensures.is in
    let here = found p.hunk_spans.items c.args.number s (omega (arith, lt, c.patch_at-row.ensures.placed.each)) c.index-span.ensures in
    subst (λ (y : FilePatch). c.behind_in.result.now ≡ behind_in y.header.form (get_or (pieces text y) c.args.number [])) (same_Some p x (sym c.patch_at-row.ensures.is ∙ at))
    (c.behind_in.ensures ∙ ap (behind_in p.header.form) (c.line_at.ensures ∙ ap (λ (t : List ℕ). bytes_at t s) c.text.ensures ∙ sym (piece-at text p c.args.number s here)))
