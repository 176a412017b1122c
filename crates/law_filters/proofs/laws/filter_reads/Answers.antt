use Rattle.law_filters.proofs.Chains.{of-set, told}
use Rattle.law_filters.proofs.laws.filter_reads.Goals as goal

pub returns-clause-set : goal.returns-clause-set
returns-clause-set c = of-set

pub returns-clause-told : goal.returns-clause-told
returns-clause-told c = told
