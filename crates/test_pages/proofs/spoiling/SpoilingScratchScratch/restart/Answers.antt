use Rattle.test_pages.proofs.spoiling.SpoilingScratchScratch.restart.Goals as goal

pub returns-clause-call : goal.returns-clause-call
returns-clause-call c = c.counted.ensures.call _ _
