use Rattle.plan_a.proofs.auto.AutoPlanLineStore.stretch.Goals as goal

pub stretch-requires-else-self-clause-held : goal.stretch-requires-else-self-clause-held
stretch-requires-else-self-clause-held g c = rw c.if-self.false at c.requires.held

pub stretch-requires-else-self-clause-room : goal.stretch-requires-else-self-clause-room
stretch-requires-else-self-clause-room g c = rw c.if-self.false at c.requires.room

pub returns-else-self-clause-bytes : goal.returns-else-self-clause-bytes
returns-else-self-clause-bytes g c = rw c.if-self.false c.stretch-else-self.ensures.bytes

pub returns-else-self-clause-end : goal.returns-else-self-clause-end
returns-else-self-clause-end g c = rw c.if-self.false c.stretch-else-self.ensures.end
