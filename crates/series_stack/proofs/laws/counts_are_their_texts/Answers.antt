use Rattle.series_stack.proofs.Meaning.{count-sound, count-again}
use Rattle.series_stack.proofs.laws.counts_are_their_texts.Goals as goal

pub returns : goal.returns
returns c = λ most n text small. (λ e. count-sound most n text e, λ h. count-again most n text small h.0 h.1)
