use Rattle.name_choice.proofs.Found.{moved-after}
use Rattle.name_choice.proofs.moved.existing_at.Goals as goal

pub returns-clause-there : goal.returns-clause-there
returns-clause-there g c = rw c.existing_if.ensures (λ files told.
    moved-after (g.T.Tree.view c.args.tree.now) (g.T.Tree.view c.is_there_at.new.tree) c.args.targets.now c.args.place c.in_ok-there.there c.in_ok-there.ensures.untouched.told c.in_ok-there.ensures.there c.in_ok-there.ensures.within files told)
