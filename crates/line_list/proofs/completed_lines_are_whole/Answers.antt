use Rattle.line_list.proofs.JoinLemmas.{completed-complete, completed-stays, complete-whole}
use Rattle.line_list.proofs.completed_lines_are_whole.Goals as goal

pub returns-clause-complete : goal.returns-clause-complete
returns-clause-complete c = λ text. completed-complete text

pub returns-clause-whole : goal.returns-clause-whole
returns-clause-whole c = λ text h. complete-whole text h

pub returns-clause-stays : goal.returns-clause-stays
returns-clause-stays c = λ text h. completed-stays text h
