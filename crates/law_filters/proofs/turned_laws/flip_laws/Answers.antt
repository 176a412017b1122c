use Rattle.law_filters.proofs.Turned.{placed-law, undone-law}
use Rattle.law_filters.proofs.Written.{read-law, text-law}
use Rattle.law_filters.proofs.turned_laws.flip_laws.Goals as goal

pub returns-clause-placed : goal.returns-clause-placed
returns-clause-placed c = λ ls fuzz most hs exact turnable. placed-law ls fuzz most hs exact turnable

pub returns-clause-undone : goal.returns-clause-undone
returns-clause-undone c = λ ls fuzz most hs exact turnable. undone-law ls fuzz most hs exact turnable

pub returns-clause-read : goal.returns-clause-read
returns-clause-read c = λ text fuzz most hs exact turnable bodies same. read-law text fuzz hs exact turnable bodies same

pub returns-clause-text : goal.returns-clause-text
returns-clause-text c = λ text fuzz most hs exact turnable bodies same. text-law text fuzz most hs exact turnable bodies same
