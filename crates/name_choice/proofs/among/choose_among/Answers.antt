use Rattle.name_choice.specs.Making.{told_new}
use Rattle.name_choice.proofs.Found.{found-after}
use Rattle.name_choice.proofs.among.choose_among.Goals as goal

pub returns-clause-there : goal.returns-clause-there
returns-clause-there g c = found-after (g.T.Tree.view c.args.tree.now) (g.T.Tree.view c.choose_from.new.tree) c.args.patch.now.targets.items c.args.operand (told_new c.args.patch.now) c.args.posix c.choose_from.result c.choose_from.ensures.untouched.told c.choose_from.ensures.chosen
