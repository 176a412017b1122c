use Rattle.normal_form.proofs.FirstFault.{fault-stays, fault-unspelled, fault-short, fault-late, fault-not_sooner}
use Rattle.normal_form.proofs.GoesOn.{fault-goes_on, fault-short_end}
use Rattle.normal_form.proofs.hunks.first_faults.Goals as goal

pub returns-clause-stays : goal.returns-clause-stays
returns-clause-stays c = fault-stays

pub returns-clause-unspelled : goal.returns-clause-unspelled
returns-clause-unspelled c = fault-unspelled

pub returns-clause-short : goal.returns-clause-short
returns-clause-short c = fault-short

pub returns-clause-late : goal.returns-clause-late
returns-clause-late c = fault-late

pub returns-clause-goes_on : goal.returns-clause-goes_on
returns-clause-goes_on c = fault-goes_on

pub returns-clause-not_sooner : goal.returns-clause-not_sooner
returns-clause-not_sooner c = fault-not_sooner

pub returns-clause-short_end : goal.returns-clause-short_end
returns-clause-short_end c = fault-short_end
