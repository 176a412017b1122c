use Rattle.std.proofs.Common.{inr, sym, ◌∙◌}
use Rattle.std.proofs.lemmas.Result.{IfOk-weaker}
use Rattle.outside.specs.Calls.{untouched_both}
use Rattle.apply_start.proofs.Barring.{some_weaker}
use Rattle.apply_start.proofs.obstacles.obstacle.Goals as goal

pub returns-in-Ok-None-clause-untouched : goal.returns-in-Ok-None-clause-untouched
returns-in-Ok-None-clause-untouched g c = untouched_both c.obstacle_of_kind.ensures.untouched c.obstacle_to_writing.ensures.untouched

pub obstacle_to_writing-requires-clause-there : goal.obstacle_to_writing-requires-clause-there
obstacle_to_writing-requires-clause-there g c = λ f now. c.requires.there f (sym c.obstacle_of_kind.ensures.untouched.told ∙ now)

pub returns-in-Ok-None-clause-names : goal.returns-in-Ok-None-clause-names
returns-in-Ok-None-clause-names g c = IfOk-weaker c.obstacle_to_writing.result _ _ (λ found is. some_weaker found (λ barrier writes. inr writes) is) c.obstacle_to_writing.ensures.names
