use Rattle.line_list.proofs.PlaceLemmas.{lines-cut, lines-within}
use Rattle.line_list.proofs.lines_of.Goals as goal

pub returns-clause-cut : goal.returns-clause-cut
returns-clause-cut c = lines-cut c.args.text.now

pub returns-clause-within : goal.returns-clause-within
returns-clause-within c = lines-within c.args.text.now
