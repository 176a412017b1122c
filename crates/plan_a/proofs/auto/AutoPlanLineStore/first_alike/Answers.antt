use Rattle.plan_a.proofs.auto.AutoPlanLineStore.first_alike.Goals as goal

pub returns-then-self-clause-other : goal.returns-then-self-clause-other
returns-then-self-clause-other g c = rw c.if-self.true c.first_alike.ensures.other

pub returns-else-self-clause-other : goal.returns-else-self-clause-other
returns-else-self-clause-other g c = rw c.if-self.false c.first_alike-else-self.ensures.other
