use Rattle.plan_b.proofs.Takings.{empty-seen}
use Rattle.plan_b.proofs.PlanB.new.Goals as goal

pub returns-clause-empty : goal.returns-clause-empty
returns-clause-empty g c = empty-seen c.new-layout.result c.new.result (g.C.Scratch.view c.args.scratch) c.new-layout.ensures.count
