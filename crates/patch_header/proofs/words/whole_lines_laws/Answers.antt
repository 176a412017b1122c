use Rattle.patch_header.proofs.Meanings.{feed-words, no_feed-words, binary-words, dot-words}
use Rattle.patch_header.proofs.words.whole_lines_laws.Goals as goal

pub returns-clause-feed : goal.returns-clause-feed
returns-clause-feed c = feed-words

pub returns-clause-no_feed : goal.returns-clause-no_feed
returns-clause-no_feed c = no_feed-words

pub returns-clause-binary : goal.returns-clause-binary
returns-clause-binary c = binary-words

pub returns-clause-dot : goal.returns-clause-dot
returns-clause-dot c = dot-words
