use Rattle.std.proofs.Common.{◌-◌, length}
use Rattle.read_clean_text.proofs.CleanedLines.{HasCleaned}
use Rattle.read_clean_text.proofs.cleaning.clean_lines.Given as goal

abbrev pub invariant-lines : goal.invariant-lines
invariant-lines l = HasCleaned l.keeps l.returns l.text l.patches l.out.items l.here.from l.here.at l.here.next

abbrev pub decreases-lines : goal.decreases-lines
decreases-lines l = length l.text - l.here.from
