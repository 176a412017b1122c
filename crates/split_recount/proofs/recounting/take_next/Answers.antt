use Rattle.std.proofs.Common.{sym, ap, ◌∙◌}
use Rattle.unified_form.specs.Hunks.{begins_hunk}
use Rattle.split_recount.proofs.recounting.take_next.Goals as goal

pub at_opening-requires : goal.at_opening-requires
at_opening-requires c = c.requires.reached.within

pub take_hunk-requires-clause-short : goal.take_hunk-requires-clause-short
take_hunk-requires-clause-short c = c.requires.short

pub take_hunk-requires-clause-reached : goal.take_hunk-requires-clause-reached
take_hunk-requires-clause-reached c = c.requires.reached

pub take_hunk-requires-clause-line : goal.take_hunk-requires-clause-line
take_hunk-requires-clause-line c = c.requires.line

pub take_hunk-requires-clause-opens : goal.take_hunk-requires-clause-opens
take_hunk-requires-clause-opens c = sym (c.if-at_opening.ensures ∙ ap begins_hunk c.requires.line.first)

pub take_line-requires-clause-short : goal.take_line-requires-clause-short
take_line-requires-clause-short c = c.requires.short

pub take_line-requires-clause-reached : goal.take_line-requires-clause-reached
take_line-requires-clause-reached c = c.requires.reached

pub take_line-requires-clause-line : goal.take_line-requires-clause-line
take_line-requires-clause-line c = c.requires.line

pub take_line-requires-clause-other : goal.take_line-requires-clause-other
take_line-requires-clause-other c = sym (c.if-at_opening.ensures ∙ ap begins_hunk c.requires.line.first)

pub returns-then-at_opening : goal.returns-then-at_opening
returns-then-at_opening c = c.take_hunk.ensures

pub returns-else-at_opening : goal.returns-else-at_opening
returns-else-at_opening c = c.take_line.ensures
