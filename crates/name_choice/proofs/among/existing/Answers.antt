use Rattle.name_choice.proofs.among.existing.Goals as goal

pub returns-then-posix-clause-untouched : goal.returns-then-posix-clause-untouched
returns-then-posix-clause-untouched g c = c.first_existing.ensures.untouched

pub returns-then-posix-clause-cause : goal.returns-then-posix-clause-cause
returns-then-posix-clause-cause g c = c.first_existing.ensures.cause

pub returns-then-posix-clause-within : goal.returns-then-posix-clause-within
returns-then-posix-clause-within g c = c.first_existing.ensures.within

pub returns-else-posix-clause-untouched : goal.returns-else-posix-clause-untouched
returns-else-posix-clause-untouched g c = c.best_existing.ensures.untouched

pub returns-else-posix-clause-cause : goal.returns-else-posix-clause-cause
returns-else-posix-clause-cause g c = c.best_existing.ensures.cause

pub returns-else-posix-clause-within : goal.returns-else-posix-clause-within
returns-else-posix-clause-within g c = c.best_existing.ensures.within

pub returns-then-posix-clause-place : goal.returns-then-posix-clause-place
returns-then-posix-clause-place g c = rw c.if-posix.true c.first_existing.ensures.first

pub returns-else-posix-clause-place : goal.returns-else-posix-clause-place
returns-else-posix-clause-place g c = rw c.if-posix.false c.best_existing.ensures.best

pub first_existing-requires : goal.first_existing-requires
first_existing-requires g c = c.requires

pub best_existing-requires : goal.best_existing-requires
best_existing-requires g c = c.requires
