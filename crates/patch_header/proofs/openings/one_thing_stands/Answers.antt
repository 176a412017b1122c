use Rattle.patch_header.proofs.Stands.{alone, not_binary, bare-alone, opening-words, binary-words, bare-words, nothing-words, stops-plain, stops-skipped}
use Rattle.patch_header.proofs.openings.one_thing_stands.Goals as goal

pub returns-clause-alone : goal.returns-clause-alone
returns-clause-alone c = alone

pub returns-clause-text : goal.returns-clause-text
returns-clause-text c = not_binary

pub returns-clause-opening : goal.returns-clause-opening
returns-clause-opening c = opening-words

pub returns-clause-binary : goal.returns-clause-binary
returns-clause-binary c = binary-words

pub returns-clause-nothing : goal.returns-clause-nothing
returns-clause-nothing c = nothing-words

pub returns-clause-bare : goal.returns-clause-bare
returns-clause-bare c = bare-alone

pub returns-clause-git : goal.returns-clause-git
returns-clause-git c = bare-words

pub returns-clause-plain : goal.returns-clause-plain
returns-clause-plain c = stops-plain

pub returns-clause-skipped : goal.returns-clause-skipped
returns-clause-skipped c = stops-skipped
