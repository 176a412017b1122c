use Rattle.patch_header.proofs.git_trail.led_by.Goals as goal

pub returns-else-counts-clause-lies : goal.returns-else-counts-clause-lies
returns-else-counts-clause-lies c = λ text h. c.no_git_lines.ensures.lies text
