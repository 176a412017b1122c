use Rattle.context_form.proofs.FirstFault.{fault-stays, fault-unspelled, fault-own, fault-short, fault-late}
use Rattle.context_form.proofs.laws.first_faults.Goals as goal

pub returns-clause-stays : goal.returns-clause-stays
returns-clause-stays c = fault-stays

pub returns-clause-unspelled : goal.returns-clause-unspelled
returns-clause-unspelled c = fault-unspelled

pub returns-clause-own : goal.returns-clause-own
returns-clause-own c = fault-own

pub returns-clause-short : goal.returns-clause-short
returns-clause-short c = fault-short

pub returns-clause-late : goal.returns-clause-late
returns-clause-late c = fault-late
