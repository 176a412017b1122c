use Rattle.patch_header.proofs.GitWords.{starts-words, run-words, all-words, new-words, deleted-words, rename-words, copy-words, modes-words, old-apart-words, new-apart-words, unnamed-words, no-file-words, range-words, leading-words, contents-words, led-words, halves-words}
use Rattle.patch_header.proofs.words.git_headers_laws.Goals as goal

pub returns-clause-starts : goal.returns-clause-starts
returns-clause-starts c = starts-words

pub returns-clause-run : goal.returns-clause-run
returns-clause-run c = run-words

pub returns-clause-all : goal.returns-clause-all
returns-clause-all c = all-words

pub returns-clause-new : goal.returns-clause-new
returns-clause-new c = new-words

pub returns-clause-deleted : goal.returns-clause-deleted
returns-clause-deleted c = deleted-words

pub returns-clause-rename : goal.returns-clause-rename
returns-clause-rename c = rename-words

pub returns-clause-copy : goal.returns-clause-copy
returns-clause-copy c = copy-words

pub returns-clause-modes : goal.returns-clause-modes
returns-clause-modes c = modes-words

pub returns-clause-range : goal.returns-clause-range
returns-clause-range c = range-words

pub returns-clause-leading : goal.returns-clause-leading
returns-clause-leading c = leading-words

pub returns-clause-contents : goal.returns-clause-contents
returns-clause-contents c = contents-words

pub returns-clause-led : goal.returns-clause-led
returns-clause-led c = led-words

pub returns-clause-halves : goal.returns-clause-halves
returns-clause-halves c = halves-words

pub returns-clause-old_apart : goal.returns-clause-old_apart
returns-clause-old_apart c = old-apart-words

pub returns-clause-new_apart : goal.returns-clause-new_apart
returns-clause-new_apart c = new-apart-words

pub returns-clause-unnamed : goal.returns-clause-unnamed
returns-clause-unnamed c = unnamed-words

pub returns-clause-no_file : goal.returns-clause-no_file
returns-clause-no_file c = no-file-words
