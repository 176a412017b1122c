use Rattle.law_faults.proofs.EdReading.{fault-named}
use Rattle.law_faults.proofs.ed.ed_faults.Goals as goal

pub returns : goal.returns
returns c = record { named = fault-named }
