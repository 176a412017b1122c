use Rattle.std.proofs.Common.{sym, ◌∙◌}
use Rattle.format_convert.proofs.RowLemmas.{misfit, none-kept, none-misfit}
use Rattle.format_convert.proofs.refusing.is_misfit.Goals as goal

pub returns : goal.returns
returns c = λ x at. misfit c.is_unfit.result _ _ _ (sym (c.has_kept.ensures x at) ∙ c.if-not-has_kept.false) (sym c.shows_context.ensures ∙ c.if-shows_context.false) (c.is_unfit.ensures x at)

pub returns-then-not-has_kept : goal.returns-then-not-has_kept
returns-then-not-has_kept c = λ x at. none-kept _ _ (sym (c.has_kept.ensures x at) ∙ c.if-not-has_kept.true)

pub returns-then-shows_context : goal.returns-then-shows_context
returns-then-shows_context c = λ x at. none-misfit _ _ _ (sym c.shows_context.ensures ∙ c.if-shows_context.true)
