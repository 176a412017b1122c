use Rattle.name_choice.proofs.Best.{best-law, none-law}
use Rattle.name_choice.proofs.Counted.{below-found, below-there}
use Rattle.name_choice.proofs.Front.{front-law}
use Rattle.name_choice.proofs.Directories.{directories-law}
use Rattle.name_choice.proofs.laws.choice_laws.Goals as goal

pub returns-clause-best : goal.returns-clause-best
returns-clause-best c = best-law

pub returns-clause-none : goal.returns-clause-none
returns-clause-none c = none-law

pub returns-clause-front : goal.returns-clause-front
returns-clause-front c = front-law

pub returns-clause-directories : goal.returns-clause-directories
returns-clause-directories c = directories-law

pub returns-clause-below : goal.returns-clause-below
returns-clause-below c = λ files directory. (below-found files directory, below-there files directory)
