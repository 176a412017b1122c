use Rattle.split_recount.proofs.Spelled.{as-spelled}
use Rattle.split_recount.proofs.bodies_are_as_spelled.Goals as goal

pub returns : goal.returns
returns c = as-spelled
