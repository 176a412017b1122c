use Rattle.read_file_patch.proofs.Names.{numbers-below, numbers-apart, numbers-stay, numbers-next, all-join}
use Rattle.read_file_patch.proofs.laws.numbers_tell_names_apart.Goals as goal

pub returns-clause-below : goal.returns-clause-below
returns-clause-below c = numbers-below

pub returns-clause-apart : goal.returns-clause-apart
returns-clause-apart c = numbers-apart

pub returns-clause-stays : goal.returns-clause-stays
returns-clause-stays c = numbers-stay

pub returns-clause-next : goal.returns-clause-next
returns-clause-next c = numbers-next

pub returns-clause-all : goal.returns-clause-all
returns-clause-all c = all-join
