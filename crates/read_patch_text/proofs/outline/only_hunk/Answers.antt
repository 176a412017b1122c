use Rattle.std.proofs.Common.{subst}
use Rattle.read_file_patch.specs.PlainPatch.{IsLawfulChange}
use Rattle.read_patch_text.proofs.DigestLemmas.{no-lawful}
use Rattle.read_patch_text.proofs.outline.only_hunk.Goals as goal

pub returns-in-Script-clause-lawful : goal.returns-in-Script-clause-lawful
returns-in-Script-clause-lawful c = λ text lawful. subst (IsLawfulChange text) c.in-Script.is lawful

pub returns-then-len-gt1-clause-lawful : goal.returns-then-len-gt1-clause-lawful
returns-then-len-gt1-clause-lawful c = λ text lawful. no-lawful text _ c.new.ensures.items

pub returns-else-len-gt1-clause-lawful : goal.returns-else-len-gt1-clause-lawful
returns-else-len-gt1-clause-lawful c = λ text lawful. subst (IsLawfulChange text) c.in-Hunks.is lawful
