use Rattle.law_faults.proofs.TextReading.{fault-named, fault-short}
use Rattle.law_faults.proofs.text.text_faults.Goals as goal

pub returns-clause-named : goal.returns-clause-named
returns-clause-named c = fault-named

pub returns-clause-short : goal.returns-clause-short
returns-clause-short c = fault-short
