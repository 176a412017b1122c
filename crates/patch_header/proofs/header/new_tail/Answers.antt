use Rattle.patch_header.proofs.header.new_tail.Goals as goal

pub returns-in-Unified-clause-lies : goal.returns-in-Unified-clause-lies
returns-in-Unified-clause-lies c = λ text h. h.plus

pub returns-in-Context-clause-lies : goal.returns-in-Context-clause-lies
returns-in-Context-clause-lies c = λ text h. h.minus
