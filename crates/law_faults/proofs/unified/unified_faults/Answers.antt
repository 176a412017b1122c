use Rattle.law_faults.proofs.UnifiedReading.{fault-named}
use Rattle.law_faults.proofs.unified.unified_faults.Goals as goal

pub returns : goal.returns
returns c = record { named = fault-named }
