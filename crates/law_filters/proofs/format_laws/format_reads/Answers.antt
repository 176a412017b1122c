use Rattle.law_reading.proofs.Stretches.{context-shown}
use Rattle.law_filters.proofs.Reading.{changes-law, names-law, reads-law}
use Rattle.law_filters.proofs.format_laws.format_reads.Goals as goal

pub returns-clause-read : goal.returns-clause-read
returns-clause-read c = λ form j v ways whole admitted none. reads-law form j v ways whole admitted none

pub returns-clause-names : goal.returns-clause-names
returns-clause-names c = λ form v whole. names-law form v whole

pub returns-clause-changes : goal.returns-clause-changes
returns-clause-changes c = λ form j v whole none. changes-law form j v whole none

pub returns-clause-shown : goal.returns-clause-shown
returns-clause-shown c = λ h. context-shown h
