use Rattle.packed_pages.proofs.marks.within.Goals as goal

pub returns-in-Some-clause-kept : goal.returns-in-Some-clause-kept
returns-in-Some-clause-kept c page are = record { far = are.far; near = c.in-Some.ensures.kept page are.near }

pub returns-in-Some-last_within-clause-kept : goal.returns-in-Some-last_within-clause-kept
returns-in-Some-last_within-clause-kept c page are = record { far = c.last_within-2.ensures.kept page are.far; near = c.last_within.ensures.kept page are.near }

pub returns-in-None-clause-kept : goal.returns-in-None-clause-kept
returns-in-None-clause-kept c page are = record { far = c.last_within-2.ensures.kept page are.far; near = c.last_within.ensures.kept page are.near }
