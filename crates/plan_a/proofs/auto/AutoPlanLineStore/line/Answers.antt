use Rattle.plan_a.proofs.auto.AutoPlanLineStore.line.Goals as goal

pub line-requires-else-self : goal.line-requires-else-self
line-requires-else-self g c = rw c.if-self.false at c.requires

pub returns-else-self : goal.returns-else-self
returns-else-self g c = rw c.if-self.false c.line-else-self.ensures
