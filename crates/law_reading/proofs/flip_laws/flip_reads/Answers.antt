use Rattle.law_reading.proofs.FlipReading.{reads-law}
use Rattle.law_reading.proofs.Stretches.{shown-law}
use Rattle.law_reading.proofs.flip_laws.flip_reads.Goals as goal

pub returns-clause-read : goal.returns-clause-read
returns-clause-read c = λ v whole none. reads-law v whole none

pub returns-clause-shown : goal.returns-clause-shown
returns-clause-shown c = λ v whole. shown-law v whole
