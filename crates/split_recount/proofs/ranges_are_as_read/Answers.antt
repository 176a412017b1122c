use Rattle.split_recount.proofs.Alike.{parts-read}
use Rattle.split_recount.proofs.ranges_are_as_read.Goals as goal

pub returns : goal.returns
returns c = parts-read
