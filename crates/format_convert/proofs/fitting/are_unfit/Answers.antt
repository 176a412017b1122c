use Rattle.std.proofs.Common.{sym, ◌∙◌}
use Rattle.format_convert.proofs.FitLemmas.{or-last}
use Rattle.format_convert.proofs.fitting.are_unfit.Goals as goal

pub returns : goal.returns
returns c = or-last c.has_large.result _ _ _ (sym c.falls_back.ensures ∙ c.if-falls_back.false) (sym c.has_open_line.ensures ∙ c.if-has_open_line.false) c.has_large.ensures
