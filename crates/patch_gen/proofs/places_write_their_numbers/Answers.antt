use Rattle.patch_gen.proofs.PlaceLemmas.{width, numeral}
use Rattle.patch_gen.proofs.places_write_their_numbers.Goals as goal

pub returns : goal.returns
returns c = record { numeral = λ w n some fits. numeral w n some fits; width = λ w n. width w n }
