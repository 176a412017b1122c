use Rattle.std.proofs.Common.{ap, ◌∙◌}
use Rattle.series_stack.specs.Saves.{entries_of}
use Rattle.series_stack.proofs.Entries.{entries-sound, entries-again}
use Rattle.series_stack.proofs.laws.saves_are_their_texts.Goals as goal

pub returns : goal.returns
returns c = λ text es. (
  λ e. let is = entries-sound text es e in (is.text, is.saved),
  λ h. ap entries_of h.0 ∙ entries-again es h.1,
)
