use Rattle.read_file_patch.proofs.Fronts.{fronts}
use Rattle.read_file_patch.proofs.laws.stripped_fronts_hold_the_slashes.Goals as goal

pub returns : goal.returns
returns c = fronts
