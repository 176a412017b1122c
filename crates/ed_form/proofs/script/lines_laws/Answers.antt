use Rattle.ed_form.proofs.Words.{command-words, word-words, substitution-words}
use Rattle.ed_form.proofs.script.lines_laws.Goals as goal

pub returns-clause-command : goal.returns-clause-command
returns-clause-command c = command-words

pub returns-clause-word : goal.returns-clause-word
returns-clause-word c = word-words

pub returns-clause-substitution : goal.returns-clause-substitution
returns-clause-substitution c = substitution-words
