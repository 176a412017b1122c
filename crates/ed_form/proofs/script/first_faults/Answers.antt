use Rattle.ed_form.proofs.FirstFault.{fault-behind, fault-stays, fault-unspelled, fault-late, fault-endless, fault-ended}
use Rattle.ed_form.proofs.script.first_faults.Goals as goal

pub returns-clause-behind : goal.returns-clause-behind
returns-clause-behind c = fault-behind

pub returns-clause-stays : goal.returns-clause-stays
returns-clause-stays c = fault-stays

pub returns-clause-unspelled : goal.returns-clause-unspelled
returns-clause-unspelled c = fault-unspelled

pub returns-clause-late : goal.returns-clause-late
returns-clause-late c = fault-late

pub returns-clause-endless : goal.returns-clause-endless
returns-clause-endless c = fault-endless

pub returns-clause-ended : goal.returns-clause-ended
returns-clause-ended c = fault-ended
