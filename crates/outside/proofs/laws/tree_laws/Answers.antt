use Rattle.outside.specs.Calls.{untouched_both}
use Rattle.outside.specs.Quiet.{same_rest_none, same_rest_both}
use Rattle.outside.proofs.laws.tree_laws.Goals as goal

pub returns-clause-untouched_both : goal.returns-clause-untouched_both
returns-clause-untouched_both g c = λ a b. untouched_both a b

pub returns-clause-rest_none : goal.returns-clause-rest_none
returns-clause-rest_none g c = λ temp. same_rest_none (g.T.Tree.view c.args.before.now) temp

pub returns-clause-rest_both : goal.returns-clause-rest_both
returns-clause-rest_both g c = λ temp a b. same_rest_both (g.T.Tree.view c.args.before.now) (g.T.Tree.view c.args.between.now) (g.T.Tree.view c.args.after.now) temp a b
