use Rattle.plan_b.proofs.Takings.{empty-seen}
use Rattle.plan_b.proofs.PlanBPlan.take_empty.Goals as goal

pub returns-clause-empty : goal.returns-clause-empty
returns-clause-empty g c = empty-seen c.new-self.result c.new-self-2.result (g.C.Scratch.view c.args.self.now.scratch) c.new-self.ensures.count
