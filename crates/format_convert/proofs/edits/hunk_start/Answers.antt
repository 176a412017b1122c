use Rattle.std.proofs.Common.{get_or, sym, ap, ◌∙◌}
use Rattle.hunk_core.specs.declared.Hunk.{Hunk}
use Rattle.hunk_core.specs.declared.Side.TheVariants.{Forward}
use Rattle.hunk_core.specs.PlainHunk.{hunk_of}
use Rattle.hunk_core.specs.Turned.{base}
use Rattle.hunk_core.proofs.TurnedLemmas.{turned-base}
use Rattle.format_convert.proofs.Steps.{none-ahead, none-whole, starts-at, starts-over}
use Rattle.format_convert.proofs.Bounds.{body-short, offset-fits, le-same, own-long}
use Rattle.format_convert.proofs.edits.hunk_start.Goals as goal

pub returns-then-hunk-kept-clause-left : goal.returns-then-hunk-kept-clause-left
returns-then-hunk-kept-clause-left c = none-ahead c.args.kept c.requires c.args.hunk 0 1 c.if-hunk-kept.true ∙ sym (none-whole c.args.kept c.requires c.args.hunk c.if-hunk-kept.true)

pub returns-then-is_kept-clause-left : goal.returns-then-is_kept-clause-left
returns-then-is_kept-clause-left c =
    starts-at c.args.kept c.requires c.args.hunk c.index-kept-hunk.result c.if-hunk-kept.false c.index-kept-hunk.is c.base.result
    (c.base.ensures.is ∙ sym (turned-base c.args.kept.set.now.text Forward (get_or c.args.kept.hunks.now c.args.hunk c.index-kept-hunk.result)) ∙ ap (λ (x : Hunk). base (hunk_of c.args.kept.set.now.text x)) (sym c.index-kept-hunk.is))
    (sym c.is_kept.ensures ∙ c.if-is_kept.true)

pub returns-clause-left : goal.returns-clause-left
returns-clause-left c =
    starts-over c.args.kept c.requires c.args.hunk c.index-kept-hunk-2.result c.if-hunk-kept.false c.index-kept-hunk-2.is c.len.result 1 (sym c.is_kept.ensures ∙ c.if-is_kept.false)
    (le-same _ _ (sym (own-long c.args.kept.hunks.now c.args.hunk c.len.result c.index-kept-hunk-2.result c.index-kept-hunk-2.is c.len.ensures)))

pub base-requires : goal.base-requires
base-requires c = body-short c.args.kept c.requires c.args.hunk c.index-kept-hunk.result c.if-hunk-kept.false

pub bounds-kept-hunk-2 : goal.bounds-kept-hunk-2
bounds-kept-hunk-2 c = c.if-hunk-kept.false

pub bounds-kept-hunk : goal.bounds-kept-hunk
bounds-kept-hunk c = c.if-hunk-kept.false

pub offset_bounds-kept-hunk : goal.offset_bounds-kept-hunk
offset_bounds-kept-hunk c = offset-fits c.args.hunk _ c.if-hunk-kept.false c.requires.lawful.count

pub offset_bounds-kept-hunk-2 : goal.offset_bounds-kept-hunk-2
offset_bounds-kept-hunk-2 c = offset-fits c.args.hunk _ c.if-hunk-kept.false c.requires.lawful.count

pub is_kept-requires-clause-within : goal.is_kept-requires-clause-within
is_kept-requires-clause-within c = c.if-hunk-kept.false
