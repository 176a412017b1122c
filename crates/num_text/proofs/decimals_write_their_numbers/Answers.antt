use Rattle.num_text.proofs.Decimal.{decimal-numeral, decimal-first}
use Rattle.num_text.proofs.decimals_write_their_numbers.Goals as goal

pub returns-clause-numeral : goal.returns-clause-numeral
returns-clause-numeral c = λ n. decimal-numeral n

pub returns-clause-shortest : goal.returns-clause-shortest
returns-clause-shortest c = λ n lt e. decimal-first n lt e
