use Rattle.hunk_core.proofs.TextLemmas.{prefix-words, backslash-words, feed-words}
use Rattle.hunk_core.proofs.text.line_tests_laws.Goals as goal

pub returns-clause-prefix : goal.returns-clause-prefix
returns-clause-prefix c = prefix-words

pub returns-clause-backslash : goal.returns-clause-backslash
returns-clause-backslash c = backslash-words

pub returns-clause-feed : goal.returns-clause-feed
returns-clause-feed c = feed-words
