use Rattle.read_header_record.proofs.Quotes.{read-back, ends-again}
use Rattle.read_header_record.proofs.quoted.quotes_are_read_back.Goals as goal

pub returns-clause-name : goal.returns-clause-name
returns-clause-name c = read-back

pub returns-clause-ends : goal.returns-clause-ends
returns-clause-ends c = ends-again
