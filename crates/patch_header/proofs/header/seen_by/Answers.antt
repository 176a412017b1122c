use Rattle.patch_header.proofs.header.seen_by.Goals as goal

pub returns-clause-lies : goal.returns-clause-lies
returns-clause-lies c = record { minus = tt; plus = tt; stars = tt; index = c.git_name.ensures.lies; prereq = c.requires.prereq; git = c.requires.git }

pub git_name-requires : goal.git_name-requires
git_name-requires c = c.requires.git
