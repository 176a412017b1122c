use Rattle.std.proofs.Common.{◌∙◌, arith, refl}
use Rattle.hunk_core.specs.Turned.{LiesIn}
use Rattle.hunk_core.specs.declared.HunkLine.{HunkLine}
use Rattle.patch_filters.specs.Told.{line_if}
use Rattle.std.proofs.Common.{ap, ◌++◌}
use Rattle.patch_filters.proofs.Hits.{all-at}
use Rattle.patch_filters.proofs.HunkTexts.{lines-all, lines-more}
use Rattle.patch_filters.proofs.numbering.put_numbered_from.Goals as goal

pub bytes_at-requires-clause-order : goal.bytes_at-requires-clause-order
bytes_at-requires-clause-order c = (all-at (λ (l : HunkLine). LiesIn c.args.text.now l.span) c.args.hunk.now.body.items c.loop-place.place c.index-line.result.now c.requires.lawful.within (omega (arith, c.loop-place-test.true)) c.index-line.ensures).0

pub bytes_at-requires-clause-within : goal.bytes_at-requires-clause-within
bytes_at-requires-clause-within c = (all-at (λ (l : HunkLine). LiesIn c.args.text.now l.span) c.args.hunk.now.body.items c.loop-place.place c.index-line.result.now c.requires.lawful.within (omega (arith, c.loop-place-test.true)) c.index-line.ensures).1

pub next_if-number-requires : goal.next_if-number-requires
next_if-number-requires c = omega (arith, c.loop-place.invariant.low, c.loop-place-test.true, c.requires.lawful.few, c.requires.low)

pub loop-place-init : goal.loop-place-init
loop-place-init c = record { low = omega arith; so_far = refl }

pub loop-place-preserved : goal.loop-place-preserved
loop-place-preserved c =
    let text = c.args.text.now in
    let l = c.index-line.result.now in
    let out = c.loop-place.out.items in
    lines-more text c.args.side c.args.number c.args.hunk.now.body.items c.args.out.now.items out c.put_line_if.new.out.items c.loop-place.number c.next_if-number.result c.loop-place.place l c.is_taken-is_on.result
    (omega (arith, c.loop-place-test.true)) c.index-line.ensures c.loop-place.invariant c.is_taken-is_on.ensures
    (c.in_ok-put_line_if.ensures ∙ ap (λ t. out ++ line_if c.is_taken-is_on.result c.loop-place.number t) c.bytes_at.ensures) c.next_if-number.ensures

pub returns : goal.returns
returns c = lines-all c.args.text.now c.args.side c.args.number c.args.hunk.now.body.items c.args.out.now.items c.loop-place.out.items c.loop-place.number c.loop-place.place (omega (arith, c.loop-place-test.false)) c.loop-place.invariant
