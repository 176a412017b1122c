use Rattle.law_faults.proofs.NormalReading.{fault-named}
use Rattle.law_faults.proofs.normal.normal_faults.Goals as goal

pub returns : goal.returns
returns c = record { named = fault-named }
