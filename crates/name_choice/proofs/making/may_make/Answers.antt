use Rattle.std.proofs.Common.{◌∙◌}
use Rattle.name_choice.proofs.FirstHunks.{making_told}
use Rattle.name_choice.proofs.making.may_make.Goals as goal

pub returns-clause-made : goal.returns-clause-made
returns-clause-made c = λ text lawful. c.says_none.ensures ∙ making_told text c.args.patch.now c.args.side lawful
