use Rattle.patch_header.proofs.Meanings.{last-none, last-words, other-words, blanks-words, all_blanks-words, quoted-words, bare-words, index_tab-words, index-words, tab-words, space-words, whole-words, white-words, word-words}
use Rattle.patch_header.proofs.words.header_lines_laws.Goals as goal

pub returns-clause-nothing : goal.returns-clause-nothing
returns-clause-nothing c = last-none

pub returns-clause-last : goal.returns-clause-last
returns-clause-last c = last-words

pub returns-clause-other : goal.returns-clause-other
returns-clause-other c = other-words

pub returns-clause-blanks : goal.returns-clause-blanks
returns-clause-blanks c = blanks-words

pub returns-clause-all_blanks : goal.returns-clause-all_blanks
returns-clause-all_blanks c = all_blanks-words

pub returns-clause-quoted : goal.returns-clause-quoted
returns-clause-quoted c = quoted-words

pub returns-clause-bare : goal.returns-clause-bare
returns-clause-bare c = bare-words

pub returns-clause-index_tab : goal.returns-clause-index_tab
returns-clause-index_tab c = index_tab-words

pub returns-clause-index : goal.returns-clause-index
returns-clause-index c = index-words

pub returns-clause-tab : goal.returns-clause-tab
returns-clause-tab c = tab-words

pub returns-clause-space : goal.returns-clause-space
returns-clause-space c = space-words

pub returns-clause-whole : goal.returns-clause-whole
returns-clause-whole c = whole-words

pub returns-clause-white : goal.returns-clause-white
returns-clause-white c = white-words

pub returns-clause-word : goal.returns-clause-word
returns-clause-word c = word-words
