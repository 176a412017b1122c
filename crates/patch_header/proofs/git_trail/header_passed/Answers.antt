use Rattle.std.proofs.Common.{subst}
use Rattle.std.specs.Prelude.{IfSome}
use Rattle.patch_header.specs.Said.{SaysWithin}
use Rattle.patch_header.proofs.git_trail.header_passed.Goals as goal

pub with_line-requires-clause-lies : goal.with_line-requires-clause-lies
with_line-requires-clause-lies c = subst (λ o. IfSome o (SaysWithin c.args.text.now)) c.in-Some.is c.requires.lies

pub with_line-requires-clause-line : goal.with_line-requires-clause-line
with_line-requires-clause-line c = c.requires.line

pub returns-then-is_git_line-clause-lies : goal.returns-then-is_git_line-clause-lies
returns-then-is_git_line-clause-lies c = c.no_git_lines.ensures.lies c.args.text.now

pub returns-in-Some-clause-lies : goal.returns-in-Some-clause-lies
returns-in-Some-clause-lies c = c.with_line.ensures.lies

pub returns-in-None-clause-lies : goal.returns-in-None-clause-lies
returns-in-None-clause-lies c = tt

pub returns-then-not-is_extended-clause-lies : goal.returns-then-not-is_extended-clause-lies
returns-then-not-is_extended-clause-lies c = tt
