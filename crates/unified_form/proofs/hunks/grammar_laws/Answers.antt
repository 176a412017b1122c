use Rattle.unified_form.proofs.Words.{opening-words, last-words}
use Rattle.unified_form.proofs.Counts.{counts-old, counts-new}
use Rattle.unified_form.proofs.hunks.grammar_laws.Goals as goal

pub returns-clause-opening : goal.returns-clause-opening
returns-clause-opening c = opening-words

pub returns-clause-last : goal.returns-clause-last
returns-clause-last c = last-words

pub returns-clause-old : goal.returns-clause-old
returns-clause-old c = counts-old

pub returns-clause-new : goal.returns-clause-new
returns-clause-new c = counts-new
