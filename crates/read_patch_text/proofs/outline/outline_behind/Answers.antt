use Rattle.hunk_core.specs.Reading.{Gives}
use Rattle.read_patch_text.specs.Patches.{begins_change}
use Rattle.std.proofs.Common.{drop, subst, true, ◌≡◌}
use Rattle.line_list.specs.Lines.{lines}
use Rattle.read_patch_text.specs.Outlines.{outlined_of}
use Rattle.read_patch_text.proofs.Passed.{unified-behind, below}
use Rattle.read_patch_text.proofs.outline.outline_behind.Goals as goal

pub returns-then-is_unified : goal.returns-then-is_unified
returns-then-is_unified c = record {
  is = c.outline_unified.ensures.is;
  exact = subst (Gives (outlined_of c.args.text.now) c.outline_unified.result) (unified-behind c.args.text.now c.args.header (c.is_unified.ensures.bare c.if-is_unified.true) (c.is_unified.ensures.form c.if-is_unified.true)) c.outline_unified.ensures.exact;
}

pub outline_whole-requires-clause-within : goal.outline_whole-requires-clause-within
outline_whole-requires-clause-within c = c.requires.within

pub outline_whole-requires-clause-small : goal.outline_whole-requires-clause-small
outline_whole-requires-clause-small c = c.requires.small

pub outline_unified-requires-clause-small : goal.outline_unified-requires-clause-small
outline_unified-requires-clause-small c = c.requires.small

pub outline_unified-requires-clause-short : goal.outline_unified-requires-clause-short
outline_unified-requires-clause-short c = c.requires.short

pub outline_whole-requires-clause-short : goal.outline_whole-requires-clause-short
outline_whole-requires-clause-short c = c.requires.short

pub outline_unified-requires-clause-opens : goal.outline_unified-requires-clause-opens
outline_unified-requires-clause-opens c = subst (λ f. begins_change f (lines (drop c.args.header.at c.args.text.now)) ≡ true) (c.is_unified.ensures.form c.if-is_unified.true) (c.requires.opens (c.is_unified.ensures.bare c.if-is_unified.true))

pub returns : goal.returns
returns c = record {
  is = c.outline_whole.ensures.is;
  exact = c.outline_whole.ensures.exact;
}

pub outline_whole-requires-clause-opens : goal.outline_whole-requires-clause-opens
outline_whole-requires-clause-opens c = c.requires.opens

pub outline_unified-requires-clause-within : goal.outline_unified-requires-clause-within
outline_unified-requires-clause-within c = below _ _ c.requires.within
