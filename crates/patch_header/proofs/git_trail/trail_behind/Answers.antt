use Rattle.std.proofs.Common.{◌∙◌, sym}
use Rattle.std.proofs.lemmas.Bool.{false≢true}
use Rattle.patch_header.proofs.git_trail.trail_behind.Goals as goal

pub returns-else-git-clause-is : goal.returns-else-git-clause-is
returns-else-git-clause-is c = λ e. absurd (false≢true (sym c.if-git.false ∙ e))

pub returns-then-git-clause-is : goal.returns-then-git-clause-is
returns-then-git-clause-is c = λ e. c.trail_passed.ensures.is

pub returns-then-git-clause-lies : goal.returns-then-git-clause-lies
returns-then-git-clause-lies c = c.trail_passed.ensures.lies

pub returns-else-git-clause-lies : goal.returns-else-git-clause-lies
returns-else-git-clause-lies c = c.requires.lies

pub trail_passed-requires-clause-line : goal.trail_passed-requires-clause-line
trail_passed-requires-clause-line c = c.requires.line

pub trail_passed-requires-clause-lies : goal.trail_passed-requires-clause-lies
trail_passed-requires-clause-lies c = c.requires.lies
