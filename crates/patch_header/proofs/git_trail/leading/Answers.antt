use Rattle.patch_header.proofs.git_trail.leading.Goals as goal

pub returns-in-None-clause-lies : goal.returns-in-None-clause-lies
returns-in-None-clause-lies c = λ text h. h.header

pub returns-in-Some-clause-lies : goal.returns-in-Some-clause-lies
returns-in-Some-clause-lies c = λ text h. h.new_name
