use Rattle.normal_form.proofs.Words.{command-words, marked-words, divider-words}
use Rattle.normal_form.proofs.hunks.grammar_laws.Goals as goal

pub returns-clause-command : goal.returns-clause-command
returns-clause-command c = command-words

pub returns-clause-marked : goal.returns-clause-marked
returns-clause-marked c = marked-words

pub returns-clause-divider : goal.returns-clause-divider
returns-clause-divider c = divider-words
