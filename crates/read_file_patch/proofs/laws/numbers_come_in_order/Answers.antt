use Rattle.read_file_patch.proofs.Names.{distinct-push, numbered-push}
use Rattle.read_file_patch.proofs.laws.numbers_come_in_order.Goals as goal

pub returns-clause-names : goal.returns-clause-names
returns-clause-names c = distinct-push

pub returns-clause-numbers : goal.returns-clause-numbers
returns-clause-numbers c = numbered-push
