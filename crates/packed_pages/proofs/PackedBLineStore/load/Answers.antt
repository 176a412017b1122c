use Rattle.packed_pages.proofs.PackedBLineStore.load.Goals as goal

pub returns-clause-reads : goal.returns-clause-reads
returns-clause-reads g c = c.load_half.ensures.reads

pub returns-clause-still : goal.returns-clause-still
returns-clause-still g c = c.load_half.ensures.still

pub returns-clause-cause : goal.returns-clause-cause
returns-clause-cause g c = c.load_half.ensures.cause

pub returns-clause-dropped : goal.returns-clause-dropped
returns-clause-dropped g c = c.load_half.ensures.dropped

pub returns-clause-keeps : goal.returns-clause-keeps
returns-clause-keeps g c = c.load_half.ensures.keeps

pub load_half-requires-clause-low : goal.load_half-requires-clause-low
load_half-requires-clause-low g c = c.requires.low

pub load_half-requires-clause-high : goal.load_half-requires-clause-high
load_half-requires-clause-high g c = c.requires.high
