use Rattle.std.proofs.Common.{subst}
use Rattle.std.specs.Prelude.{IfSome}
use Rattle.patch_header.specs.Said.{SaysWithin}
use Rattle.patch_header.proofs.git_trail.led_lines.Goals as goal

pub returns-in-None-clause-lies : goal.returns-in-None-clause-lies
returns-in-None-clause-lies c = λ text h. c.no_git_lines.ensures.lies text

pub returns-in-Some-clause-lies : goal.returns-in-Some-clause-lies
returns-in-Some-clause-lies c = λ text h. subst (λ o. IfSome o (SaysWithin text)) c.in-Some.is (c.leading.ensures.lies text h)
