use Rattle.test_pages.proofs.spoiling.SpoilingScratchScratch.read_at.Goals as goal

pub returns-then-self-clause-call : goal.returns-then-self-clause-call
returns-then-self-clause-call c = c.counted.ensures.call _ _

pub returns-clause-call : goal.returns-clause-call
returns-clause-call c = c.counted-2.ensures.call _ _
