use Rattle.read_file_patch.proofs.Maps.{no-texts, none-numbered}
use Rattle.read_file_patch.proofs.numbering.Numbers.new.Goals as goal

pub invariant_of-result : goal.invariant_of-result
invariant_of-result c = none-numbered c.new.result c.new.ensures.empty

pub returns : goal.returns
returns c = no-texts c.new.result c.new.ensures.empty
