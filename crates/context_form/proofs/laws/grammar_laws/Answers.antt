use Rattle.context_form.proofs.Words.{opening-words, zero-words, alone-words, other-words, two-words}
use Rattle.context_form.proofs.laws.grammar_laws.Goals as goal

pub returns : goal.returns
returns c = record { opening = opening-words; zero = zero-words; alone = alone-words; other = other-words; two = two-words }
