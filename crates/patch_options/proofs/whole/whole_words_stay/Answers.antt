use Rattle.patch_options.proofs.LongNames.{words_stay}
use Rattle.patch_options.proofs.whole.whole_words_stay.Goals as goal

pub returns : goal.returns
returns c = words_stay
