use Rattle.law_faults.proofs.ContextReading.{fault-named}
use Rattle.law_faults.proofs.context.context_faults.Goals as goal

pub returns : goal.returns
returns c = record { named = fault-named }
