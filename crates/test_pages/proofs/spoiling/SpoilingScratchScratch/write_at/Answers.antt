use Rattle.test_pages.proofs.spoiling.SpoilingScratchScratch.write_at.Goals as goal

pub returns-then-at-bytes-clause-call : goal.returns-then-at-bytes-clause-call
returns-then-at-bytes-clause-call c = c.counted.ensures.call _ _

pub returns-clause-call : goal.returns-clause-call
returns-clause-call c = c.counted-2.ensures.call _ _
