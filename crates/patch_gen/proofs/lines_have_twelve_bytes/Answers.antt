use Rattle.patch_gen.specs.Tree.{file_state}
use Rattle.patch_gen.proofs.LineLemmas.{length-text}
use Rattle.patch_gen.proofs.lines_have_twelve_bytes.Goals as goal

pub returns-clause-file : goal.returns-clause-file
returns-clause-file c = λ seed lines i. length-text (file_state seed lines i) lines
