use Rattle.plan_a.proofs.auto.AutoPlanLineStore.load.Goals as goal

pub returns-then-self-clause-other : goal.returns-then-self-clause-other
returns-then-self-clause-other g c = rw c.if-self.true c.load.ensures.other

pub returns-else-self-clause-held : goal.returns-else-self-clause-held
returns-else-self-clause-held g c = rw c.if-self.false c.load-else-self.ensures.held

pub returns-else-self-clause-other : goal.returns-else-self-clause-other
returns-else-self-clause-other g c = rw c.if-self.false c.load-else-self.ensures.other
