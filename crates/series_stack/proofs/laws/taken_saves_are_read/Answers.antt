use Rattle.series_stack.proofs.Taking.{save-read}
use Rattle.series_stack.proofs.laws.taken_saves_are_read.Goals as goal

pub returns : goal.returns
returns c = λ names f saved short. save-read f names saved short
