use Rattle.read_patch_text.proofs.TextLaws.{text-again}
use Rattle.law_reading.proofs.Joining.{patch-joined}
use Rattle.law_reading.proofs.Reading.{text-found, lines-found}
use Rattle.law_reading.proofs.Standing.{text-reads, parts-read}
use Rattle.law_reading.proofs.laws.join_laws.Goals as goal

pub returns-clause-stands : goal.returns-clause-stands
returns-clause-stands c = λ ways text ps. (text-found ways text ps, text-again ways text ps)

pub returns-clause-read : goal.returns-clause-read
returns-clause-read c = λ ways text ps. (lines-found ways text ps, text-reads ways text ps)

pub returns-clause-joined : goal.returns-clause-joined
returns-clause-joined c = patch-joined

pub returns-clause-parts : goal.returns-clause-parts
returns-clause-parts c = parts-read
