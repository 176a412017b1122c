use Rattle.law_reading.proofs.Free.{made-free}
use Rattle.law_reading.proofs.MadeReading.{made-reads}
use Rattle.law_reading.proofs.gen_laws.gen_reads.Goals as goal

pub returns-clause-read : goal.returns-clause-read
returns-clause-read c = λ ways seed files lines admitted some few. made-reads ways seed files lines admitted some few

pub returns-clause-free : goal.returns-clause-free
returns-clause-free c = λ o seed files lines takes one few some short all. made-free o seed files lines takes one few some short all
