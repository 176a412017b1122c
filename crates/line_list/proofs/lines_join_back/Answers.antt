use Rattle.line_list.proofs.JoinLemmas.{join-lines}
use Rattle.line_list.proofs.lines_join_back.Goals as goal

pub returns : goal.returns
returns c = λ text. join-lines text
